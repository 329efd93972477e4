-- What a function that puts octets into an area leaves there, and where the next ones go.
use Rattle.std.specs.Prelude.{ℕ, ◌+◌, ◌≡◌, cond, List, [], ◌∷◌, ◌++◌, length, get_or, drop}
use Rattle.rules.specs.declared.Class.{Class}
use Rattle.rules.specs.Areas.{laid}
use Rattle.rules.specs.Tests.{◌=?◌}
use Rattle.rules.specs.Listing.{text, decimal, word}

-- The area is as it was but for `xs` from octet `from` on, and `end` is where they end.
pub record Put (xs area : List ℕ) (from : ℕ) (area' : List ℕ) (end : ℕ) : Type 0 where
  pub octets : area' ≡ laid area from xs
  pub ends : end ≡ from + length xs

-- A pattern in which each `#` (35) stands for the next of the numbers, and for 0 where there is none.
unfoldable pub filled : List ℕ → List ℕ → List ℕ
filled [] vs = []
filled (x ∷ p) vs = cond (x =? 35) (decimal (get_or vs 0 0) ++ filled p (drop 1 vs)) (x ∷ filled p vs)

-- The texts between the marks `|` (124).
unfoldable pub onto : ℕ → List (List ℕ) → List (List ℕ)
onto x [] = (x ∷ []) ∷ []
onto x (p ∷ ps) = (x ∷ p) ∷ ps

unfoldable pub parts : List ℕ → List (List ℕ)
parts [] = [] ∷ []
parts (x ∷ t) = cond (x =? 124) ([] ∷ parts t) (onto x (parts t))

-- The n-th of them.
unfoldable pub part : List ℕ → ℕ → List ℕ
part t n = get_or (parts t) n []

-- A line up to its third field.
unfoldable pub front : ℕ → Class → List ℕ
front k c = decimal k ++ text " " ++ word c ++ text " "
