-- An access lane that reads a frame of a batch, with z octets of it from octet o on: as a lane of one unit, which is lost where it began before
-- octet j.
use mathlib.Core.Path.{◌≡◌, refl, sym, ap, ap₂, ◌∙◌}
use Prim.Native.Nat.{ℕ, ◌+◌, ◌-◌, ◌≤◌, ◌<◌}
use native.Mathlib.Nat.{sub_self}
use native.Mathlib.Omega.{arith}
use mathlib.Core.Bool.{Bool, true, false, cond}
use mathlib.Core.List.{List, [], ◌∷◌, ◌++◌, append-nil}
use lib.ListN.{length, take, drop, replicate, length-append, length-drop, take-append-drop}
use lib.Seq.{length-take-le, take_all, take_at, take-add}
use borrow.Author.Tests.{le-leb, lt-ltb, le-ltb, eq-eqb, ne_eqb}
use Rattle.std.specs.Prelude.{Some, None}
use Rattle.rules.specs.declared.Fate.{Fate}
use Rattle.rules.specs.declared.Fate.TheVariants.{Hand, Hold}
use Rattle.rules.specs.Tests.{◌≤?◌, ◌=?◌}
use Rattle.rules.specs.Writing.{inside}
use Rattle.rules.specs.Reading.{DataUnit, no_unit, Made, both, unit_fate, follow_fate, portion, access_lane}
use Rattle.rules.proofs.Tests.{split}
use Rattle.link.specs.Due.{ending}
use Rattle.link.proofs.Spans.{yields, yield, becomes, spanned, begun, onward, onward_new, onward_old, begun-whole, begun-now, begun-on, held_from, either, held-past, held-here, first-within, first-after}

module _ (longest z : ℕ) (zp : 0 < z) (j : ℕ) (carried : ℕ → ℕ) (o : ℕ) (jo : j ≤ o) (b : List ℕ) (bl : length b ≤ longest) (ob : o < length b) where
  -- The unit is not lost.
  abbrev live : Bool
  live = j ≤? 0

  -- The spans with this frame.
  abbrev now : ℕ → ℕ
  now = onward o carried

  -- What there is of it.
  abbrev had : DataUnit
  had = begun (carried 0) (take o b)

  abbrev before : DataUnit
  before = cond live had no_unit

  abbrev begins : Bool
  begins = o =? 0

  -- ---- what follows the held octets, where the two make these

  joins : Bool → Bool → List ℕ → Made
  joins finished t xs = portion longest finished begins (cond t had no_unit) xs

  first : o ≡ 0 → (finished : Bool) (xs : List ℕ) → yield (joins finished live xs) ≡ becomes (unit_fate longest finished (length xs)) (begun (now 0) xs)
  unfolding joins portion both
  first e finished xs =
      rw (eq-eqb o 0 e)
      (ap (becomes (unit_fate longest finished (length xs)))
      (begun-now xs ∙ ap (λ (k : ℕ). begun k xs) (sym (onward_new o carried 0 (omega arith)))))

  follows : 0 < o → (finished t : Bool) (xs : List ℕ) → 0 < length xs
      → yield (joins finished t xs) ≡ cond t (becomes (unit_fate longest finished (length (take o b ++ xs)))
      (begun (now 0) (take o b ++ xs))) (yields [] no_unit)
  unfolding joins portion follow_fate
  follows h finished true xs some =
      let p : 0 < length (take o b) = rw (length-take-le o b (omega arith)) h in
      rw (ne_eqb o 0 (λ e. omega arith), ne_eqb (length (take o b)) 0 (λ e. omega arith), length-append (take o b) xs)
      (ap (becomes (unit_fate longest finished (length (take o b) + length xs)))
      (begun-on (carried 0) (take o b) xs p some ∙ ap (λ (k : ℕ). begun k (take o b ++ xs)) (sym (onward_old o carried 0 h))))
  follows h finished false xs some = rw (ne_eqb o 0 (λ e. omega arith))

  live-first : o ≡ 0 → live ≡ true
  live-first e = le-leb j 0 (omega arith)

  -- Whichever it is, what becomes of the unit's octets so far, if it is not lost.
  so_far : (finished : Bool) (xs ys : List ℕ) → 0 < length xs → take o b ++ xs ≡ ys
      → yield (joins finished live xs) ≡ cond live (becomes (unit_fate longest finished (length ys)) (begun (now 0) ys)) (yields [] no_unit)
  so_far finished xs ys some e =
      split 1 o
      (λ h.
      follows h finished live xs some
      ∙ ap (λ (l : List ℕ). cond live (becomes (unit_fate longest finished (length l)) (begun (now 0) l)) (yields [] no_unit)) e)
      (λ h.
      let z₀ : o ≡ 0 = omega arith in
      let n : xs ≡ ys = sym (ap (λ (i : ℕ). take i b ++ xs) z₀) ∙ e in
      first z₀ finished xs ∙ ap (λ (l : List ℕ). becomes (unit_fate longest finished (length l)) (begun (now 0) l)) n
      ∙ sym (ap (λ (t : Bool). cond t (becomes (unit_fate longest finished (length ys)) (begun (now 0) ys)) (yields [] no_unit)) (live-first z₀)))

  fate-ends : unit_fate longest true (length b) ≡ Hand
  unfolding unit_fate
  fate-ends = rw (le-leb _ _ bl)

  fate_goes : o + z < length b → unit_fate longest false (length (take (o + z) b)) ≡ Hold
  unfolding unit_fate
  fate_goes h = let l : length (take (o + z) b) < longest = rw (length-take-le (o + z) b (omega arith)) (omega arith) in rw (lt-ltb _ _ l)

  one_of : (t : Bool) (us : List DataUnit) (h : DataUnit) → cond t (yields us h) (yields [] no_unit) ≡ yields (cond t us []) (cond t h no_unit)
  one_of true us h = refl
  one_of false us h = refl

  -- ---- the zone and the pointer

  abbrev zone_from : List ℕ
  zone_from = take z (drop o b) ++ replicate (z - length (take z (drop o b))) 0x00

  left-length : length (drop o b) ≡ length b - o
  left-length = length-drop o b

  abbrev Says : Type 0
  Says =
      yield (access_lane longest begins before (inside z (length b - 1 - o)) zone_from)
      ≡ yields (ending o (o + z) (λ (i : ℕ). j ≤? i) (spanned now) 0 (b ∷ [])) (held_from j now 0 (o + z) (b ∷ []))

  zone-ends : length b ≤ o + z → take (length b - 1 - o + 1) zone_from ≡ drop o b
  zone-ends h =
      let d : take z (drop o b) ≡ drop o b = take_all z (drop o b) (rw left-length (omega arith)) in
      ap (λ (p : List ℕ). take (length b - 1 - o + 1) (p ++ replicate (z - length p) 0x00)) d
      ∙ take_at (drop o b) _ (length b - 1 - o + 1) (left-length ∙ omega arith)

  zone-goes : o + z < length b → zone_from ≡ take z (drop o b)
  zone-goes h =
      let d : length (take z (drop o b)) ≡ z = length-take-le z (drop o b) (rw left-length (omega arith)) in
      ap (λ (n : ℕ). take z (drop o b) ++ replicate (z - n) 0x00) d ∙ ap (λ (n : ℕ). take z (drop o b) ++ replicate n 0x00) (sub_self z)
      ∙ append-nil (take z (drop o b))

  -- ---- the unit ends in this frame, or goes on

  ends : length b ≤ o + z → Says
  unfolding access_lane both joins inside ending
  ends h =
      let p : length b - 1 - o < z = omega arith in
      ap (λ (t : Bool). yield (access_lane longest begins before (cond t (Some (length b - 1 - o)) None) zone_from)) (lt-ltb _ _ p)
      ∙ ap (λ (xs : List ℕ). yield (joins true live xs)) (zone-ends h)
      ∙ so_far true (drop o b) b (rw left-length (omega arith)) (take-append-drop o b)
      ∙ ap₂ (λ (f : Fate) (x : DataUnit). cond live (becomes f x) (yields [] no_unit)) fate-ends (begun-whole (now 0) b (omega arith))
      ∙ one_of live (spanned now 0 b ∷ []) no_unit
      ∙ sym
      (ap₂ yields
      (first-within o (o + z) (λ (i : ℕ). j ≤? i) (spanned now) b [] 0 (omega arith) (omega arith) ∙ append-nil (cond live (spanned now 0 b ∷ []) []))
      (held-past j now 0 (o + z) b [] h ∙ nil ∙ sym (either live no_unit)))
    where
      nil : held_from j now (0 + length b) (o + z - length b) [] ≡ no_unit
      nil = unfold held_from in refl

  goes : o + z < length b → Says
  unfolding access_lane joins inside ending
  goes h =
      let p : z ≤ length b - 1 - o = omega arith in
      ap (λ (t : Bool). yield (access_lane longest begins before (cond t (Some (length b - 1 - o)) None) zone_from)) (le-ltb _ _ p)
      ∙ ap (λ (xs : List ℕ). yield (joins false live xs)) (zone-goes h)
      ∙ so_far false (take z (drop o b)) (take (o + z) b) (rw (length-take-le z (drop o b) (rw left-length (omega arith))) zp) (sym (take-add o z b))
      ∙ ap (λ (f : Fate). cond live (becomes f (begun (now 0) (take (o + z) b))) (yields [] no_unit)) (fate_goes h)
      ∙ one_of live [] (begun (now 0) (take (o + z) b))
      ∙ ap (λ (us : List DataUnit). yields us (cond live (begun (now 0) (take (o + z) b)) no_unit)) (either live [])
      ∙ sym (ap₂ yields (first-after o (o + z) (λ (i : ℕ). j ≤? i) (spanned now) b [] 0 (omega arith)) (held-here j now 0 (o + z) b [] h))

  pub access-lane :
      yield (access_lane longest (o =? 0) (held_from j carried 0 o (b ∷ [])) (inside z (length b - 1 - o)) zone_from)
      ≡ yields (ending o (o + z) (λ (i : ℕ). j ≤? i) (spanned now) 0 (b ∷ [])) (held_from j now 0 (o + z) (b ∷ []))
  access-lane =
      ap (λ (h : DataUnit). yield (access_lane longest begins h (inside z (length b - 1 - o)) zone_from)) (held-here j carried 0 o b [] ob)
      ∙ split (length b) (o + z) ends goes
