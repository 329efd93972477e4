-- What the library's `starts_with`, `==` and `position` answer is what the definitions say, octet by octet.
use Rattle.std.proofs.Common.{◌≡◌, ℕ, ◌+◌, Bool, true, false, cond, ◌&&◌, List, [], ◌∷◌, length, Option, Some, None, refl, sym, ◌∙◌, ap, arith}
use Rattle.std.proofs.lemmas.Bool.Decides.{nat_tests}
use Rattle.std.proofs.lemmas.Iterator.Adapters.{position_from-zero}
use Rattle.std.specs.List.{starts_with, position, position_from}
use Rattle.std.specs.Cmp.Lexicographic.{pointwise}
use Rattle.std.specs.Prelude.{suc, eqb}
use borrow.Author.Tests.{ne_eqb}
use Rattle.words.specs.Words.{begins, is_word, behind}

either_way : (x y : ℕ) → eqb x y ≡ eqb y x
either_way x y = grind (arith, nat_tests)

pub begins_is : (word s : List ℕ) → starts_with eqb s word ≡ begins word s
unfolding begins
begins_is [] s = refl
begins_is (w ∷ ws) [] = refl
begins_is (w ∷ ws) (x ∷ xs) = rw (either_way w x, begins_is ws xs)

sucs : (m n : ℕ) → eqb (suc m) (suc n) ≡ eqb m n
sucs m n = grind (arith, nat_tests)

regroup : (a b c : Bool) → a && (b && c) ≡ (a && b) && c
regroup true b c = refl
regroup false b c = refl

pub same_is : (word s : List ℕ) → pointwise eqb s word ≡ is_word word s
unfolding begins is_word
same_is [] [] = refl
same_is [] (x ∷ xs) = sym (ne_eqb (suc (length xs)) 0 (λ h. omega (arith, h)))
same_is (w ∷ ws) [] = refl
same_is (w ∷ ws) (x ∷ xs) = rw (same_is ws xs, sucs (length xs) (length ws)) (regroup (eqb x w) (begins ws xs) (eqb (length xs) (length ws)))

-- One past a place, or 0 where there is none.
abbrev pub one_past : Option ℕ → ℕ
one_past None = 0
one_past (Some i) = i + 1

from_octet : (i : ℕ) (s : List ℕ) → one_past (position_from (λ x. eqb x 61) i s) ≡ behind i s
unfolding behind
from_octet i [] = refl
from_octet i (x ∷ xs) =
    elim (eqb x 61) as (λ b. one_past (cond b (Some i) (position_from (λ y. eqb y 61) (i + 1) xs)) ≡ cond b (i + 1) (behind (i + 1) xs))
    [ true ↦ refl | false ↦ from_octet (i + 1) xs ]

pub behind_is : (s : List ℕ) (p : Option ℕ) → p ≡ position (λ x. eqb x 61) s → one_past p ≡ behind 0 s
behind_is s p e = ap one_past (e ∙ position_from-zero (λ x. eqb x 61) s) ∙ from_octet 0 s

pub behind_some : (s : List ℕ) (i : ℕ) → Some i ≡ position (λ x. eqb x 61) s → i + 1 ≡ behind 0 s
behind_some s i e = behind_is s (Some i) e

pub behind_none : (s : List ℕ) → None ≡ position (λ x. eqb x 61) s → 0 ≡ behind 0 s
behind_none s e = behind_is s None e
