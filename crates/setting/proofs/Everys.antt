-- Every number below n passes, or the first that does, as it is read off a list.
use Rattle.std.proofs.Common.{◌≡◌, refl, sym, ap, ap₂, ◌∙◌, ℕ, zero, suc, ◌<◌, ◌≤◌, Bool, true, false, ◌&&◌, List, take, length, get_or, add-one, arith, IsTrue, ◌↔◌, Option, Some, None, length-take-le, get_or-take}
use Rattle.std.specs.List.{list_all, position, position_or_len}
use Rattle.std.proofs.lemmas.List.{get_or_default}
use Rattle.std.proofs.lemmas.List.Quantifiers.{position-Some}
use Rattle.std.proofs.lemmas.Grind.{common_steps}
use Rattle.std.proofs.lemmas.List.Sums.{fails_before_first}
use Rattle.std.proofs.lemmas.List.Folds.{list_all_more}
use Rattle.rules.specs.Tests.{every, first}
use Rattle.rules.proofs.Tests.{at_every, every-at, first-at, first-none}

-- A test that passes where each number below n does.
pub is_every : (t : Bool) (n : ℕ) (p : ℕ → Bool) → (IsTrue t ↔ ((i : ℕ) → i < n → IsTrue (p i))) → t ≡ every n p
is_every true n p h = sym (at_every p n (h.0 refl))
is_every false n p h = go (every n p) refl
  where
    go : (u : Bool) → every n p ≡ u → false ≡ u
    go true e = h.1 (every-at p n e)
    go false e = refl

-- The first of a list's first n that passes.
pub first_of : {X : Type 0} (p : X → Bool) (xs : List X) (z : X) (n : ℕ) → n ≤ length xs → position p (take n xs) ≡ first n (λ i. p (get_or xs i z))
first_of p xs z n h = go (position p (take n xs)) refl
  where
    at : (i : ℕ) → i < n → p (get_or xs i z) ≡ p (get_or (take n xs) i z)
    at i l = ap p (sym (get_or-take n xs i z l))

    long : length (take n xs) ≡ n
    long = length-take-le n xs h

    go : (o : Option ℕ) → position p (take n xs) ≡ o → o ≡ first n (λ i. p (get_or xs i z))
    go None e =
        let past : length (take n xs) ≤ position_or_len p (take n xs) = grind (arith, common_steps) in
        let m = long in
        sym (first-none _ n (λ i l. at i l ∙ fails_before_first p (take n xs) i z (omega arith)))
    go (Some i) e =
        let f = position-Some p (take n xs) i z e in
        let m = long in
        sym (first-at _ n i (omega arith) (at i (omega arith) ∙ f.1) (λ j l. at j (omega arith) ∙ f.2 j l))

pub every_same : (p q : ℕ → Bool) (n : ℕ) → ((i : ℕ) → i < n → p i ≡ q i) → every n p ≡ every n q
unfolding every
every_same p q zero h = refl
every_same p q (suc n) h = ap₂ (λ (a b : Bool). a && b) (every_same p q n (λ i l. h i (omega arith))) (h n (omega arith))

-- The first n of a list pass.
pub every_of : {X : Type 0} (p : X → Bool) (xs : List X) (z : X) (n : ℕ) → n ≤ length xs → list_all p (take n xs) ≡ every n (λ i. p (get_or xs i z))
unfolding every
every_of p xs z zero h = refl
every_of p xs z (suc n) h =
    ap (λ (k : ℕ). list_all p (take k xs)) (sym (add-one n)) ∙ list_all_more p xs n z (omega arith)
    ∙ ap (λ (b : Bool). b && p (get_or xs n z)) (every_of p xs z n (omega arith))

-- Each of a list's first n passes beside each one before it.
abbrev pub pairs : {X : Type 0} → (X → X → Bool) → X → List X → ℕ → Bool
pairs p z xs n = every n (λ i. every i (λ j. p (get_or xs j z) (get_or xs i z)))

pub pairs_in : {X : Type 0} (p : X → X → Bool) (z : X) (xs ys : List X) (n : ℕ) → n ≤ length xs → ys ≡ take n xs → pairs p z ys (length ys) ≡ pairs p z xs n
pairs_in p z xs ys n h e =
    rw e
    (ap (pairs p z (take n xs)) (length-take-le n xs h)
    ∙ every_same _ _ n (λ i k. every_same _ _ i (λ j l. ap₂ p (get_or-take n xs j z (omega arith)) (get_or-take n xs i z k))))

-- What passes beside each before its own place in a list.
pub beside : {X : Type 0} (p : X → X → Bool) (z : X) (xs : List X) (i : ℕ) (b : X) (t : Bool) → i < length xs → b ≡ get_or xs i b
    → t ≡ list_all (λ a. p a b) (take i xs) → t ≡ every i (λ j. p (get_or xs j z) (get_or xs i z))
beside p z xs i b t h e k =
    k ∙ every_of (λ a. p a b) xs z i (omega arith) ∙ ap (λ a. every i (λ j. p (get_or xs j z) a)) (e ∙ get_or_default xs i b z h)
