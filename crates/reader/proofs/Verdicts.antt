-- A read by its verdict: what each case may rely on, and what it makes of the call.
use mathlib.Core.Path.{◌≡◌, refl, sym, ap, ◌∙◌}
use mathlib.Core.Bool.{Bool, true, false, cond, not}
use Prim.Native.Nat.{ℕ, ◌<◌}
use mathlib.Core.List.{List}
use lib.ListN.{length}
use Rattle.rules.specs.declared.Gap.{Gap}
use Rattle.rules.specs.declared.Reader.{Reader}
use Rattle.rules.specs.declared.Setting.{Setting}
use Rattle.rules.specs.declared.Taken.{Taken}
use Rattle.rules.specs.declared.Verdict.{Verdict}
use Rattle.rules.specs.Settings.{channel, lane, channel_of, reader_ok}
use Rattle.rules.specs.Frames.{count_in}
use Rattle.rules.specs.Reading.{gap}
use Rattle.rules.specs.Calls.{Got, areas_short, read_on, on_verdict, verdict, read, again, looked, repeats_at, on_look}
use Rattle.rules.proofs.States.{gap-setting, good_gap}
use Rattle.rules.specs.Promises.{ReadGives}
use Rattle.rules.specs.Refusals.{judge}
use native.Mathlib.Omega.{arith}
use Rattle.rules.proofs.Judged.{Judged, judge-facts}
use Rattle.rules.proofs.Valid.{good_reader}
use Rattle.rules.proofs.Looks.{verdict-looked, looked-cond}
use Rattle.rules.proofs.Promises.{Keeps, read_by}
use Rattle.rules.proofs.Calls.{areas-long, Ordered, Ruled, verdict-cond, verdict-facts}
use Rattle.std.specs.Prelude.{Result, Ok, Err, Some, None}
use Rattle.judge.specs.declared.Sight.{Sight}
use Rattle.judge.specs.declared.Sighting.{Sighting}
use Rattle.judge.specs.declared.Sighting.TheVariants.{Seen}
use Rattle.judge.specs.Sights.{read_sight, sight_of, Fitting}
use Rattle.judge.proofs.Sights.{counted-sight, read-sight}
use Rattle.reader.specs.Reads.{short_of, short_refusal, counted_of, OnLane, SeenOn}
use Rattle.reader.specs.declared.Found.{Found}
use Rattle.reader.specs.Finds.{Sound, again_of, missing_for, found_by, found_of, shown_of}
use Rattle.gaps.proofs.Gaps.{gap-small}

-- ---- what is found

-- Whether it is a repeat or not, what was seen stays sound.
pub sound-again : (r : Reader) (v : Sighting) → Sound r v → Sound r (again_of r v)
sound-again r Sighting.Idle k = tt
sound-again r (Seen x) k = go (repeats_at r x.channel x.count)
  where
    go : (t : Bool) → Sound r (cond t (Sighting.Repeat x.channel) (Seen x))
    go true = tt
    go false = k
sound-again r (Sighting.Repeat c) k = tt

-- The same of an answer: what was refused is no repeat, and nothing is missing before it.
abbrev pub again_by : Reader → Result Sighting ℕ → Result Sighting ℕ
again_by r (Ok v) = Ok (again_of r v)
again_by r (Err n) = Err n

abbrev pub missing_by : Reader → Result Sighting ℕ → ℕ
missing_by r (Ok v) = missing_for r v
missing_by r (Err n) = 0

module _ (r : Reader) (f : List ℕ) where
  abbrev said_of : Verdict → Result Sighting ℕ
  said_of w = sight_of r.setting f w

  -- By a valid state's checks.
  pub sound : reader_ok r ≡ true → (v : Sighting) → Ok v ≡ said_of (judge r.setting f) → Fitting r.setting v → Sound r v
  unfolding sight_of
  sound ok Sighting.Idle e k = tt
  sound ok (Seen x) e k = (ok, go (judge r.setting f) (judge-facts r.setting f) e, k)
    where
      go : (w : Verdict) → Judged r.setting f w → Ok (Seen x) ≡ said_of w → x.channel < r.setting.listed
      go (Verdict.Refused n) j q = let z : ◌≡◌ {A = ℕ} 0 1 = cc in absurd (omega (arith, z))
      go Verdict.Idle j q = let z : ◌≡◌ {A = ℕ} 0 1 = cc in absurd (omega (arith, z))
      go (Verdict.Counted c) j q = let o : x.channel ≡ c = cc in rw o j.0
      go (Verdict.Read l) j q = let o : x.channel ≡ (lane r.setting l).channel = cc in rw o ((good_reader r ok).setting.lanes l j.numbered).channel
      go (Verdict.Repeat c) j q = let z : ◌≡◌ {A = ℕ} 0 1 = cc in absurd (omega (arith, z))
  sound ok (Sighting.Repeat c) e k = tt

  told : (t : Bool) (c : ℕ) (x : Sighting) (w : Verdict) → Ok x ≡ said_of w
      → Ok (cond t (Sighting.Repeat c) x) ≡ said_of (cond t (Verdict.Repeat c) w)
  unfolding sight_of
  told true c x w e = refl
  told false c x w e = e

  -- A repeat is told by what was seen as the rule tells it by the verdict.
  pub again-sight : (w : Verdict) → again_by r (said_of w) ≡ said_of (again r f w)
  unfolding sight_of again
  again-sight (Verdict.Refused n) = refl
  again-sight Verdict.Idle = refl
  again-sight (Verdict.Counted c) = told (repeats_at r c (count_in (channel r.setting c) f)) c _ (Verdict.Counted c) refl
  again-sight (Verdict.Read l) =
      let c : ℕ = (lane r.setting l).channel in
      told (repeats_at r c (count_in (channel_of r.setting l) f)) c _ (Verdict.Read l) refl
  again-sight (Verdict.Repeat c) = refl

  pub missing-found : (w : Verdict) → missing_by r (said_of w) ≡ (on_look w r f).missing
  unfolding sight_of on_look
  missing-found (Verdict.Refused n) = refl
  missing-found Verdict.Idle = refl
  missing-found (Verdict.Counted c) = refl
  missing-found (Verdict.Read l) = refl
  missing-found (Verdict.Repeat c) = refl

  -- What a look shows of it is the rule's.
  pub shown-look : (w : Verdict) → shown_of (found_of r f w) ≡ on_look w r f
  unfolding found_of sight_of on_look
  shown-look (Verdict.Refused n) = refl
  shown-look Verdict.Idle = refl
  shown-look (Verdict.Counted c) = refl
  shown-look (Verdict.Read l) = refl
  shown-look (Verdict.Repeat c) = refl

  -- What the checks say, and after them whether it is a repeat.
  module _ (ok : reader_ok r ≡ true) where
    pub looked-again : again_by r (said_of (judge r.setting f)) ≡ said_of (looked r f)
    looked-again = again-sight (judge r.setting f) ∙ ap said_of (sym (looked-cond r f ∙ rw ok))

    pub refused-again : (n : ℕ) → Err n ≡ said_of (judge r.setting f) → Err n ≡ said_of (looked r f)
    refused-again n e = ap (again_by r) e ∙ looked-again

  -- Of an answer.
  pub found-ok : (w : Verdict) (x : Sighting) (m : ℕ) → Ok x ≡ said_of w → m ≡ missing_for r x → Ok (record { sighting = x; missing = m }) ≡ found_of r f w
  unfolding found_of
  found-ok w x m e q =
      ap (λ (i : ℕ). Ok (record { sighting = x; missing = i })) (q ∙ ap (missing_by r) e ∙ missing-found w)
      ∙ ap (λ (y : Result Sighting ℕ). found_by y (on_look w r f).missing) e

  pub found-err : (w : Verdict) (n : ℕ) → Err n ≡ said_of w → Err n ≡ found_of r f w
  unfolding found_of
  found-err w n e = ap (λ (y : Result Sighting ℕ). found_by y (on_look w r f).missing) e

  -- And back: what it says of the frame, and how many are missing.
  abbrev sighting_by : Result Found ℕ → Result Sighting ℕ
  sighting_by (Ok y) = Ok y.sighting
  sighting_by (Err n) = Err n

  abbrev missing_or : ℕ → Result Found ℕ → ℕ
  missing_or d (Ok y) = y.missing
  missing_or d (Err n) = d

  pub said : (w : Verdict) (y : Result Found ℕ) → y ≡ found_of r f w → sighting_by y ≡ said_of w
  unfolding found_of
  said w y e = ap sighting_by e ∙ go (said_of w) _
    where
      go : (x : Result Sighting ℕ) (m : ℕ) → sighting_by (found_by x m) ≡ x
      go (Ok x) m = refl
      go (Err n) m = refl

  pub gone : (w : Verdict) (v : Found) → Ok v ≡ found_of r f w → v.missing ≡ missing_for r v.sighting
  unfolding found_of
  gone w v e =
      ap (missing_or (on_look w r f).missing) e ∙ go (said_of w) _ ∙ sym (missing-found w) ∙ ap (missing_by r) (sym (said w (Ok v) e))
    where
      go : (x : Result Sighting ℕ) (m : ℕ) → missing_or m (found_by x m) ≡ m
      go (Ok x) m = refl
      go (Err n) m = refl

-- ---- what is made of it

module _ (r : Reader) (f h u c : List ℕ) where
  -- Where no area is short, what is found is what the checks of a read say.
  pub found-lent : short_of (length h) (length u) (length c) ≡ false → (v : Result Found ℕ) → v ≡ found_of r f (looked r f)
      → v ≡ found_of r f (verdict r f h u c)
  unfolding areas_short
  found-lent e v q = q ∙ ap (found_of r f) (sym (verdict-looked r f h u c e))

  pub found-short : short_of (length h) (length u) (length c) ≡ true → verdict r f h u c ≡ Verdict.Refused (short_refusal r)
  unfolding areas_short
  found-short e = verdict-cond r f h u c ∙ rw e (go (reader_ok r))
    where
      go : (a : Bool) → cond (not a) (Verdict.Refused 1) (Verdict.Refused 2) ≡ Verdict.Refused (cond a 2 1)
      go true = refl
      go false = refl

  -- What a case of the verdict makes keeps the promise.
  kept : (w : Verdict) → verdict r f h u c ≡ w → (x : Got) → x ≡ on_verdict w r f h u c → Keeps r f h u c x
  unfolding read
  kept w e x q = read_by r f h u c x (q ∙ ap (λ (v : Verdict). on_verdict v r f h u c) (sym e))

  -- Where that leaves the areas as they were.
  pub areas-kept : (w : Verdict) (t t' : Taken) → verdict r f h u c ≡ w → t ≡ t'
      → record { taken = t'; held_area = h; unit_area = u; record_area = c } ≡ on_verdict w r f h u c → ReadGives r f h u c t h u c
  areas-kept w t t' e q o =
      kept w e (record { taken = t; held_area = h; unit_area = u; record_area = c })
      (ap (λ (x : Taken). record { taken = x; held_area = h; unit_area = u; record_area = c }) q ∙ o)

  facts : (w : Verdict) → verdict r f h u c ≡ w → Ruled r f h u c w
  facts w e = rw (sym e) (verdict-facts r f h u c)

  -- What was seen, with its count taken.
  module _ (x : Sight) (m : ℕ) (o : SeenOn r x m f h u c) where
    -- Counted: what the gap leaves.
    pub counted-kept : x.lane ≡ None → (g : Gap) → g ≡ gap r x.channel x.count → (t : Taken) → t ≡ counted_of g → ReadGives r f h u c t h u c
    unfolding on_verdict
    counted-kept q g eg t et =
        let w = counted-sight r.setting f x (verdict r f h u c) (sym o.found) q in
        areas-kept (Verdict.Counted x.channel) t (counted_of (gap r x.channel (count_in (channel r.setting x.channel) f))) w.0
        (et ∙ ap counted_of (eg ∙ ap (gap r x.channel) w.1)) refl

    -- Read by lane l.
    module _ (l : ℕ) (q : x.lane ≡ Some l) (g : Gap) (eg : g ≡ gap r x.channel x.count) where
      is_read : (verdict r f h u c ≡ Verdict.Read l) × (x ≡ read_sight r.setting f l)
      is_read = read-sight r.setting f x (verdict r f h u c) l (sym o.found) q

      its-gap : g ≡ gap r (lane r.setting l).channel (count_in (channel_of r.setting l) f)
      its-gap = eg ∙ ap (λ (y : Sight). gap r y.channel y.count) is_read.1

      setting_same : g.state.setting ≡ r.setting
      setting_same = ap (λ (y : Gap). y.state.setting) eg ∙ gap-setting r _ _

      pub on-lane : OnLane g l f h u c × (x ≡ read_sight g.state.setting f l)
      on-lane =
          let k : Ordered r f h u c (Verdict.Read l) = facts (Verdict.Read l) is_read.0 in
          let a = areas-long h u c k.areas in (
            record {
              good = rw its-gap (good_gap r k.good (lane r.setting l).channel (count_in (channel_of r.setting l) f));
              dropped = rw its-gap (gap-small r (lane r.setting l).channel (count_in (channel_of r.setting l) f) k.good);
              reads = rw setting_same k.judged;
              held = a.0;
              units = a.1;
              records = a.2;
            },
            rw setting_same is_read.1,
          )

      pub lane-kept : (y : Got) → y ≡ read_on g l (channel_of g.state.setting l) f h u c → Keeps r f h u c y
      unfolding on_verdict
      lane-kept y e =
          kept (Verdict.Read l) is_read.0 y
          (e ∙ ap (λ (s : Setting). read_on g l (channel_of s l) f h u c) setting_same
          ∙ ap (λ (z : Gap). read_on z l (channel_of r.setting l) f h u c) its-gap)
