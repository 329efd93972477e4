-- What is known of a frame when none of refusals 3 to 12 applies, and of what it then is.
use mathlib.Core.Path.{◌≡◌, refl, ◌∙◌}
use Prim.Native.Nat.{ℕ, zero, suc, ◌+◌, ◌-◌, ◌*◌, ◌/◌, ◌%◌, ◌^◌, ◌<◌}
use native.Mathlib.Nat.{zero-lt-suc, mod-lt}
use native.Mathlib.Omega.{arith}
use mathlib.Core.Bool.{Bool, true, false, cond, not, ◌&&◌, ◌||◌, false≢true}
use mathlib.Core.List.{List}
use lib.ListN.{length, take}
use borrow.Author.Tests.{ltb-true, eqb-true, eqb-false, not-false}
use Rattle.rules.specs.declared.Setting.{Setting}
use Rattle.std.specs.Prelude.{Option, Some, None}
use Rattle.rules.specs.declared.Verdict.{Verdict}
use Rattle.rules.specs.declared.Verdict.TheVariants.{Refused, Idle, Counted, Read, Repeat}
use Rattle.rules.specs.Tests.{◌<?◌, ◌=?◌, ◌≠?◌, none, at, given}
use Rattle.rules.specs.Octets.{num, bits, flag}
use Rattle.rules.specs.Settings.{channel, lane, zone}
use Rattle.rules.specs.Frames.{version, craft, source_bit, vc, map, end_of_header, length_field, bypass, command, spare, ocf_flag, count_length, pointer_in, check_holds, points_to}
use Rattle.rules.specs.Refusals.{channel_at, lane_at, data_wrong, refusals_at, refusals, on_channel, passed, judged, judge}
use Rattle.rules.specs.Valid.{Inside, Reads}
use Rattle.std.proofs.lemmas.Bool.{or_parts}
use Rattle.rules.proofs.Tests.{and_left, Found, first_found, given_skip, given-none, given-zero}

-- ---- the rows of the table, none of which applies

pub record Clear (s : Setting) (f : List ℕ) (p : Option ℕ) : Type 0 where
  pub row₃ : length f ≠? s.length ≡ false
  pub row₄ : not (check_holds s f) ≡ false
  pub row₅ : version f ≠? 0b1100 ≡ false
  pub row₆ : (craft f ≠? s.craft || source_bit f ≠? s.bit) ≡ false
  pub row₇ : end_of_header f =? 1 ≡ false
  pub row₈ : (length_field f ≠? (s.length - 1) || spare f ≠? 0b00 || (command f =? 1 && bypass f =? 0)) ≡ false
  pub row₉ : (vc f ≠? 63 && none p) ≡ false
  pub row₁₀ : at p (λ (c : ℕ). count_length f ≠? (channel s c).octets) ≡ false
  pub row₁₁ : at p (λ (c : ℕ). ocf_flag f ≠? flag (channel s c).ocf) ≡ false
  pub row₁₂ : at p (λ (c : ℕ). at (lane_at s c (map f)) (λ (l : ℕ). command f =? 0 && data_wrong s c l f)) ≡ false

module _ {s : Setting} {f : List ℕ} {p : Option ℕ} where
  pub none-given : Clear s f p → given (refusals_at s f p) ≡ 0
  unfolding refusals_at
  none-given k =
      given_skip _ _ k.row₃ ∙ given_skip _ _ k.row₄ ∙ given_skip _ _ k.row₅ ∙ given_skip _ _ k.row₆ ∙ given_skip _ _ k.row₇
      ∙ given_skip _ _ k.row₈ ∙ given_skip _ _ k.row₉ ∙ given_skip _ _ k.row₁₀ ∙ given_skip _ _ k.row₁₁ ∙ given_skip _ _ k.row₁₂ ∙ given-none

  pub clear : given (refusals_at s f p) ≡ 0 → Clear s f p
  unfolding refusals_at
  clear e =
      let r₃ = given-zero _ _ e in
      let r₄ = given-zero _ _ r₃.1 in
      let r₅ = given-zero _ _ r₄.1 in
      let r₆ = given-zero _ _ r₅.1 in
      let r₇ = given-zero _ _ r₆.1 in
      let r₈ = given-zero _ _ r₇.1 in
      let r₉ = given-zero _ _ r₈.1 in
      let r₁₀ = given-zero _ _ r₉.1 in
      let r₁₁ = given-zero _ _ r₁₀.1 in
      let r₁₂ = given-zero _ _ r₁₁.1 in
      record {
        row₃ = r₃.0;
        row₄ = r₄.0;
        row₅ = r₅.0;
        row₆ = r₆.0;
        row₇ = r₇.0;
        row₈ = r₈.0;
        row₉ = r₉.0;
        row₁₀ = r₁₀.0;
        row₁₁ = r₁₁.0;
        row₁₂ = r₁₂.0;
      }

-- ---- the verdict

abbrev pub Judged : Setting → List ℕ → Verdict → Type 0
Judged s f (Refused n) = Unit {0}
Judged s f Idle = Unit {0}
Judged s f (Counted c) = (c < s.listed) × (length f ≡ s.length)
Judged s f (Read l) = Reads s f l
Judged s f (Repeat c) = (c < s.listed) × (length f ≡ s.length)

points : (p z : ℕ) → (p <? z || p =? 0xFFFF) ≡ true → Inside z (points_to p)
unfolding points_to
points p z e = go (p =? 0xFFFF) (p <? z) refl e
  where
    go : (a b : Bool) → p <? z ≡ b → (b || a) ≡ true → Inside z (cond a None (Some p))
    go true b q h = tt
    go false true q h = ltb-true _ _ q
    go false false q h = absurd (false≢true h)

-- A bit is 0 or 1.
pub neither : (n from : ℕ) (xs : List ℕ) → bits n from 1 xs =? 1 ≡ false → bits n from 1 xs =? 0 ≡ false → ⊥
unfolding bits
neither n from xs a b =
    let x : ℕ = num (take n xs) / 2 ^ (8 * n - (from + 1)) in
    let h : x % 2 < 2 = mod-lt x (zero-lt-suc 1) in
    two (x % 2) h (eqb-false _ _ a) (eqb-false _ _ b)
  where
    two : (y : ℕ) → y < 2 → (y ≡ 1 → ⊥) → (y ≡ 0 → ⊥) → ⊥
    two zero h a b = b refl
    two (suc zero) h a b = a refl
    two (suc (suc y)) h a b = omega arith

module _ (s : Setting) (f : List ℕ) where
  data-right : (c l : ℕ) → (lane s l).channel ≡ c → l < s.numbered → length f ≡ s.length → data_wrong s c l f ≡ false → Reads s f l
  unfolding data_wrong zone
  data-right c l q h n e =
      let a = or_parts _ _ (rw n at e) in
      let b = or_parts _ _ a.0 in
      record {
        numbered = h;
        whole = n;
        rule = rw q (not-false _ b.0);
        pointer = rw q (points (pointer_in s (channel s c) f) (zone s (channel s c)) (not-false _ a.1));
      }

  on-channel : (c : ℕ) → c < s.listed → length f ≡ s.length → (p : Option ℕ)
      → Found (λ (l : ℕ). (lane s l).channel =? c && (lane s l).map =? map f) s.numbered p
      → at p (λ (l : ℕ). command f =? 0 && data_wrong s c l f) ≡ false → Judged s f (on_channel f c p)
  unfolding on_channel
  on-channel c h n None o e = (h, n)
  on-channel c h n (Some l) o e = go (command f =? 1) refl (command f =? 0) refl e
    where
      q : (lane s l).channel ≡ c
      q = eqb-true _ _ (and_left _ _ o.1)

      go : (a : Bool) → command f =? 1 ≡ a → (b : Bool) → command f =? 0 ≡ b → (b && data_wrong s c l f) ≡ false → Judged s f (cond a (Counted c) (Read l))
      go true x b y z = (h, n)
      go false x true y z = data-right c l q o.0 n z
      go false x false y z = absurd (neither 7 49 f x y)

  passed-facts : (p : Option ℕ) → Found (λ (c : ℕ). (channel s c).vc =? vc f && (channel s c).service =? bypass f) s.listed p → Clear s f p → Judged s f
      (passed s f p)
  unfolding passed lane_at
  passed-facts None o k = tt
  passed-facts (Some c) o k = on-channel c o.0 (eqb-true _ _ (not-false _ k.row₃)) (lane_at s c (map f)) (first_found _ s.numbered) k.row₁₂

  pub judge-facts : Judged s f (judge s f)
  unfolding judge refusals channel_at
  judge-facts = go (given (refusals s f)) refl
    where
      go : (n : ℕ) → given (refusals s f) ≡ n → Judged s f (judged s f n)
      go zero e = unfold judged in passed-facts (channel_at s (vc f) (bypass f)) (first_found _ s.listed) (clear e)
      go (suc n) e = unfold judged in tt
