-- One question after another gives what the table of refusals gives.
use mathlib.Core.Path.{◌≡◌, refl, sym, ap, ◌∙◌}
use Prim.Native.Nat.{ℕ, zero, suc, ◌-◌}
use native.Mathlib.Nat.{suc-ne-zero}
use mathlib.Core.Bool.{Bool, true, false, cond, not, ◌&&◌, ◌||◌, and-false, and-true}
use mathlib.Core.List.{List, [], ◌∷◌}
use lib.ListN.{length}
use borrow.Author.Tests.{eqb-true, eq-eqb, ne_eqb}
use Rattle.std.specs.Prelude.{Err, Option, Some, None}
use Rattle.header.specs.Heads.{head_of}
use Rattle.rules.specs.declared.Setting.{Setting}
use Rattle.rules.specs.declared.Verdict.{Verdict}
use Rattle.rules.specs.declared.Verdict.TheVariants.{Refused, Idle, Counted, Read}
use Rattle.rules.specs.declared.Refusal.{Refusal}
use Rattle.rules.specs.Tests.{◌=?◌, ◌≠?◌, none, at, number_of, Row, given}
use Rattle.rules.specs.Octets.{flag}
use Rattle.rules.specs.Settings.{channel}
use Rattle.rules.specs.Frames.{version, craft, source_bit, vc, map, end_of_header, length_field, bypass, command, spare, ocf_flag, count_length, check_holds}
use Rattle.rules.specs.Refusals.{channel_at, lane_at, data_wrong, refusals_at, refusals, on_channel, passed, judged, judge}
use Rattle.rules.proofs.Judged.{neither}
use Rattle.rules.proofs.Tests.{some_number}
use Rattle.judge.specs.Judging.{judge_data, judge_map, judge_listed, judge_channel, field_refusal, head_refusal, judge_head, judge_frame}
use Rattle.judge.specs.Sights.{sight_of}

module _ (s : Setting) (f : List ℕ) where
  -- Rows asked one after another, and what is left where none applies.
  asked : List Row → Verdict → Verdict
  asked [] v = v
  asked (r ∷ rs) v = cond r.applies (Refused (number_of r.refusal)) (asked rs v)

  asked_is : (rs : List Row) → judged s f (given rs) ≡ asked rs (passed s f (channel_at s (vc f) (bypass f)))
  unfolding given judged asked
  asked_is [] = refl
  asked_is (r ∷ rs) = go r.applies (number_of r.refusal) (some_number r.refusal) (asked_is rs)
    where
      go : (t : Bool) (n : ℕ) → (n ≡ 0 → ⊥) → judged s f (given rs) ≡ asked rs (passed s f (channel_at s (vc f) (bypass f)))
          → judged s f (cond t n (given rs)) ≡ cond t (Refused n) (asked rs (passed s f (channel_at s (vc f) (bypass f))))
      go true zero k e = absurd (k refl)
      go true (suc n) k e = unfold judged in refl
      go false n k e = e

  -- 12, of a frame of channel c: a command frame's data field is not looked at.
  last_row : (c : ℕ) (q : Option ℕ)
      → cond (at q (λ (l : ℕ). command f =? 0 && data_wrong s c l f)) (Refused 12) (on_channel f c q) ≡ judge_map s c f q
  unfolding on_channel judge_map judge_data
  last_row c None = refl
  last_row c (Some l) = go (command f =? 1) refl (command f =? 0) refl (data_wrong s c l f)
    where
      zero_one : (n : ℕ) → n ≡ 1 → n ≡ 0 → ⊥
      zero_one n p q = suc-ne-zero 0 (sym p ∙ q)

      go : (a : Bool) → command f =? 1 ≡ a → (b : Bool) → command f =? 0 ≡ b → (d : Bool)
          → cond (b && d) (Refused 12) (cond a (Counted c) (Read l)) ≡ cond a (Counted c) (cond d (Refused 12) (Read l))
      go true x true y d = absurd (zero_one (command f) (eqb-true _ _ x) (eqb-true _ _ y))
      go true x false y d = refl
      go false x true y d = refl
      go false x false y d = absurd (neither 7 49 f x y)

  -- 9 to 12, of the channel at place p.
  late-rows : (p : Option ℕ)
      → cond (vc f ≠? 63 && none p) (Refused 9)
      (cond (at p (λ (c : ℕ). count_length f ≠? (channel s c).octets)) (Refused 10)
      (cond (at p (λ (c : ℕ). ocf_flag f ≠? flag (channel s c).ocf)) (Refused 11)
      (cond (at p (λ (c : ℕ). at (lane_at s c (map f)) (λ (l : ℕ). command f =? 0 && data_wrong s c l f))) (Refused 12) (passed s f p))))
      ≡ judge_channel s f p
  unfolding judge_channel judge_listed passed
  late-rows None = ap (λ (t : Bool). cond t (Refused 9) Idle) (and-true (vc f ≠? 63))
  late-rows (Some c) =
      ap
      (λ (t : Bool). cond t (Refused 9)
      (cond (count_length f ≠? (channel s c).octets) (Refused 10)
      (cond (ocf_flag f ≠? flag (channel s c).ocf) (Refused 11)
      (cond (at (lane_at s c (map f)) (λ (l : ℕ). command f =? 0 && data_wrong s c l f)) (Refused 12) (on_channel f c (lane_at s c (map f)))))))
      (and-false (vc f ≠? 63))
      ∙ ap (λ (v : Verdict). cond (count_length f ≠? (channel s c).octets) (Refused 10) (cond (ocf_flag f ≠? flag (channel s c).ocf) (Refused 11) v))
      (last_row c (lane_at s c (map f)))

  -- 5 to 8, and on.
  head_rows : (v : Verdict)
      → cond (version f ≠? 0b1100) (Refused 5)
      (cond (craft f ≠? s.craft || source_bit f ≠? s.bit) (Refused 6)
      (cond (end_of_header f =? 1) (Refused 7)
      (cond (length_field f ≠? (s.length - 1) || spare f ≠? 0b00 || (command f =? 1 && bypass f =? 0)) (Refused 8) v)))
      ≡ cond (head_refusal s (head_of f) =? 0) v (Refused (head_refusal s (head_of f)))
  unfolding head_refusal field_refusal head_of
  head_rows v =
      go (version f ≠? 0b1100) (craft f ≠? s.craft || source_bit f ≠? s.bit) (end_of_header f =? 1)
      (length_field f ≠? (s.length - 1) || spare f ≠? 0b00 || (command f =? 1 && bypass f =? 0))
    where
      go : (a b c d : Bool)
          → cond a (Refused 5) (cond b (Refused 6) (cond c (Refused 7) (cond d (Refused 8) v)))
          ≡ cond (cond a 5 (cond b 6 (cond c 7 (cond d 8 0))) =? 0) v (Refused (cond a 5 (cond b 6 (cond c 7 (cond d 8 0)))))
      go true b c d = refl
      go false true c d = refl
      go false false true d = refl
      go false false false true = refl
      go false false false false = refl

  pub judge-frame : judge s f ≡ judge_frame s f
  unfolding judge refusals refusals_at judge_frame judge_head asked
  judge-frame =
      let p : Option ℕ = channel_at s (vc f) (bypass f) in
      asked_is (refusals_at s f p)
      ∙ ap
      (λ (v : Verdict). cond (length f ≠? s.length) (Refused 3)
      (cond (not (check_holds s f)) (Refused 4)
      (cond (version f ≠? 0b1100) (Refused 5)
      (cond (craft f ≠? s.craft || source_bit f ≠? s.bit) (Refused 6)
      (cond (end_of_header f =? 1) (Refused 7)
      (cond (length_field f ≠? (s.length - 1) || spare f ≠? 0b00 || (command f =? 1 && bypass f =? 0)) (Refused 8) v))))))
      (late-rows p)
      ∙ ap (λ (v : Verdict). cond (length f ≠? s.length) (Refused 3) (cond (not (check_holds s f)) (Refused 4) v)) (head_rows (judge_channel s f p))

  -- Refused by 5 to 8.
  pub refused-head : (e : Refusal) → number_of e ≡ head_refusal s (head_of f) → length f ≡ s.length → check_holds s f ≡ true
      → Err (number_of e) ≡ sight_of s f (judge s f)
  unfolding judge_frame judge_head sight_of
  refused-head e n l k =
      rw (judge-frame, eq-eqb _ _ l, k, sym n, ne_eqb _ _ (some_number e))
