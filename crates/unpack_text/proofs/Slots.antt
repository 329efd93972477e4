-- Sums, slot by slot.
use Prim.Native.Nat.{ℕ, zero, suc, ◌≤◌}
use lib.Dec.{lit≤}
use lib.ListN.{take}
use native.Mathlib.Omega.{arith}
use Rattle.std.specs.List.{fold}
use Rattle.std.proofs.lemmas.List.Sums.{fold_more}
use lib.Seq.{take_all}
use borrow.Author.Tests.{ltb-true, ltb-false}
use mathlib.Core.Bool.{Bool, true, false}
use Rattle.rules.specs.Tests.{◌<?◌}
use mathlib.Core.Path.{◌≡◌, refl, sym, ap, ◌∙◌}
use mathlib.Core.List.{List}
use lib.ListN.{length, get_or, get_or-eq_default}
use native.Mathlib.Numerals.{add-one}
use Rattle.rules.specs.declared.Slot.{Slot}
use Rattle.rules.specs.Settings.{no_slot}
use Rattle.unpack_text.specs.Totals.{add, held_in}

held-most : (slots : List Slot) (n : ℕ) → held_in slots n ≤ 18446744073709551615
unfolding held_in add
held-most slots zero = lit≤ tt
held-most slots (suc n) = omega arith

add-none : (k : ℕ) → k ≤ 18446744073709551615 → k ≡ add k 0
unfolding add
add-none k l = omega arith

-- The first n lanes, or all where there are not so many: one past the last holds nothing.
pub held-fold : (slots : List Slot) (n : ℕ) → fold (λ (sum : ℕ) (x : Slot). add sum x.held) 0 (take n slots) ≡ held_in slots n
unfolding held_in
held-fold slots zero = refl
held-fold slots (suc n) = by (n <? length slots) refl (held-fold slots n)
  where
    h : ℕ → Slot → ℕ
    h sum x = add sum x.held

    by : (t : Bool) → (n <? length slots) ≡ t → fold h 0 (take n slots) ≡ held_in slots n
        → fold h 0 (take (suc n) slots) ≡ add (held_in slots n) (get_or slots n no_slot).held
    by true e k =
        rw (← add-one n) (fold_more h 0 slots n no_slot (ltb-true n (length slots) e)) ∙ ap (λ (m : ℕ). add m (get_or slots n no_slot).held) k
    by false e k =
        let l : length slots ≤ n = ltb-false n (length slots) e in
        rw (get_or-eq_default slots no_slot l, take_all (suc n) slots (omega arith))
        (ap (fold h 0) (sym (take_all n slots l)) ∙ k ∙ add-none (held_in slots n) (held-most slots n))
