-- The first number below n that passes, as it is found in a range.
use Rattle.std.proofs.Common.{◌≡◌, sym, ap, ap₂, refl, ◌∙◌, ℕ, zero, suc, ◌<◌, Bool, cond, Option, Some, None, List, zero-add, arith}
use lib.Seq.{take_all}
use Rattle.std.specs.List.{position, range_with_len}
use Rattle.std.proofs.lemmas.List.FromFn.{length-range_with_len, get_or-range_with_len}
use Rattle.rules.specs.Tests.{before, first}
use Rattle.setting.proofs.Everys.{first_of}

first_same : (p q : ℕ → Bool) (n : ℕ) → ((i : ℕ) → i < n → p i ≡ q i) → first n p ≡ first n q
unfolding first
first_same p q zero h = refl
first_same p q (suc n) h =
    ap₂ (λ (a : Option ℕ) (b : Bool). before a (cond b (Some n) None)) (first_same p q n (λ i l. h i (omega arith))) (h n (omega arith))

pub first_in : (p : ℕ → Bool) (n : ℕ) → position p (range_with_len 0 n) ≡ first n p
first_in p n =
    let l = length-range_with_len 0 n in
    ap (λ (xs : List ℕ). position p xs) (sym (take_all n (range_with_len 0 n) (omega arith)))
    ∙ first_of p (range_with_len 0 n) 0 n (omega arith)
    ∙ first_same _ p n (λ i h. ap p (get_or-range_with_len 0 n i 0 h ∙ zero-add i))
