-- What is put into a sight is what the rules' verdict finds, and a count that was seen fits its channel.
use mathlib.Core.Path.{◌≡◌, refl, sym, ap, ◌∙◌}
use Prim.Native.Nat.{ℕ, ◌-◌, ◌^◌, ◌<◌}
use native.Mathlib.Omega.{arith}
use mathlib.Core.Bool.{Bool, true, false, cond}
use mathlib.Core.List.{List}
use lib.ListN.{length, take, drop, length-drop}
use lib.Seq.{take_all}
use Rattle.std.specs.Prelude.{Result, Ok, Err, IfOk, Option, Some, None}
use Rattle.rules.specs.declared.Setting.{Setting}
use Rattle.rules.specs.declared.Verdict.{Verdict}
use Rattle.rules.specs.Tests.{◌=?◌}
use Rattle.rules.specs.Settings.{channel, lane, field_at, zone_at, zone_for}
use Rattle.rules.specs.Frames.{map, command, count_in, rule_in, upid_in, pointer_in, points_to}
use Rattle.rules.specs.Refusals.{lane_at, data_wrong}
use Rattle.judge.proofs.Places.{lane-on}
use Rattle.header.specs.declared.Data.{Data}
use Rattle.header.specs.Heads.{data_of}
use Rattle.judge.specs.declared.Sight.{Sight}
use Rattle.judge.specs.declared.Sighting.{Sighting}
use Rattle.judge.specs.declared.Sighting.TheVariants.{Seen}
use Rattle.judge.specs.Judging.{data_wrong_of, judge_data, judge_map}
use Rattle.judge.specs.Sights.{counted_sight, read_sight, sight_of, Fitting}

module _ (s : Setting) (f : List ℕ) (c : ℕ) where
  -- The data field, as a slice's rest.
  pub field_is : take (length f - field_at s (channel s c)) (drop (field_at s (channel s c)) f) ≡ drop (field_at s (channel s c)) f
  field_is = take_all (length f - field_at s (channel s c)) (drop (field_at s (channel s c)) f) (omega (arith, length-drop (field_at s (channel s c)) f))

  module _ (l z : ℕ) (d : Data) (zone : z ≡ zone_for s (channel s c) (length f))
      (read : d ≡ data_of (take (length f - field_at s (channel s c)) (drop (field_at s (channel s c)) f))) where
    here : d ≡ data_of (drop (field_at s (channel s c)) f)
    here = read ∙ ap data_of field_is

    pub wrong-is : (w : Bool) → w ≡ data_wrong_of (lane s l) z d → w ≡ data_wrong s c l f
    unfolding data_wrong_of data_wrong data_of rule_in upid_in pointer_in
    wrong-is w e = e ∙ rw (zone, here)

    -- 12, by what was found wrong.
    pub refused-12 : (w : Bool) → w ≡ data_wrong_of (lane s l) z d → w ≡ true → judge_data s c l f ≡ Verdict.Refused 12
    unfolding judge_data
    refused-12 w e t = rw (sym (wrong-is w e) ∙ t)

    pub seen-is : (w : Bool) → w ≡ data_wrong_of (lane s l) z d → w ≡ false → (lane s l).channel ≡ c → (k : ℕ) → k ≡ count_in (channel s c) f
        → (p : Option ℕ) → p ≡ points_to d.pointer
        → Ok (Seen (record { channel = c; lane = Some l; count = k; rule = d.rule; place = p; begin = zone_at s (channel s c); size = z }))
        ≡ sight_of s f (judge_data s c l f)
    unfolding judge_data sight_of data_of rule_in pointer_in
    seen-is w e t q k n p o = rw (sym (wrong-is w e) ∙ t, q, n, o, here, zone)

  pub counted_is : (k : ℕ) → k ≡ count_in (channel s c) f → Ok (Seen (counted_sight c k)) ≡ sight_of s f (Verdict.Counted c)
  unfolding sight_of
  counted_is k e = rw e

  -- By the lane at place p, if any.
  pub fitting : count_in (channel s c) f < 256 ^ (channel s c).octets → (p : Option ℕ) → lane_at s c (map f) ≡ p
      → IfOk (sight_of s f (judge_map s c f p)) (λ (v : Sighting). Fitting s v)
  unfolding judge_map judge_data sight_of
  fitting h None e = h
  fitting h (Some l) e = go (command f =? 1) (data_wrong s c l f)
    where
      on : (lane s l).channel ≡ c
      on = lane-on s c (map f) l e

      go : (a w : Bool)
          → IfOk (sight_of s f (cond a (Verdict.Counted c) (cond w (Verdict.Refused 12) (Verdict.Read l)))) (λ (v : Sighting). Fitting s v)
      go true w = h
      go false true = tt
      go false false = rw on h

-- ---- what a sight says of the verdict

-- The verdict that this is the sight of.
abbrev verdict_of : Result Sighting ℕ → Verdict
verdict_of (Err n) = Verdict.Refused n
verdict_of (Ok Sighting.Idle) = Verdict.Idle
verdict_of (Ok (Seen x)) = elim x.lane [ None ↦ Verdict.Counted x.channel | Some l ↦ Verdict.Read l ]
verdict_of (Ok (Sighting.Repeat c)) = Verdict.Repeat c

module _ (s : Setting) (f : List ℕ) where
  back : (w : Verdict) → verdict_of (sight_of s f w) ≡ w
  unfolding sight_of
  back (Verdict.Refused n) = refl
  back Verdict.Idle = refl
  back (Verdict.Counted c) = refl
  back (Verdict.Read l) = refl
  back (Verdict.Repeat c) = refl

  pub verdict-is : (w : Verdict) (x : Result Sighting ℕ) → sight_of s f w ≡ x → w ≡ verdict_of x
  verdict-is w x e = sym (back w) ∙ ap verdict_of e

  -- Seen, and read by no lane or by lane l.
  pub counted-sight : (x : Sight) (w : Verdict) → sight_of s f w ≡ Ok (Seen x) → x.lane ≡ None
      → (w ≡ Verdict.Counted x.channel) × (x.count ≡ count_in (channel s x.channel) f)
  unfolding sight_of
  counted-sight x w e q =
      let v : w ≡ Verdict.Counted x.channel = verdict-is w (Ok (Seen x)) e ∙ rw q in
      let o : counted_sight x.channel (count_in (channel s x.channel) f) ≡ x = let d = rw v at e in cc in
      (v, sym (ap (λ (y : Sight). y.count) o))

  pub read-sight : (x : Sight) (w : Verdict) (l : ℕ) → sight_of s f w ≡ Ok (Seen x) → x.lane ≡ Some l → (w ≡ Verdict.Read l) × (x ≡ read_sight s f l)
  unfolding sight_of
  read-sight x w l e q =
      let v : w ≡ Verdict.Read l = verdict-is w (Ok (Seen x)) e ∙ rw q in
      let o : read_sight s f l ≡ x = let d = rw v at e in cc in
      (v, sym o)
