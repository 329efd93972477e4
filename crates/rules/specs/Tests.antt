-- How the rules test: comparisons of numbers, and the ways in which the paper joins tests.
use Rattle.std.specs.Prelude.{ℕ, zero, suc, Bool, true, false, cond, not, ◌&&◌, List, [], ◌∷◌, leb, ltb, eqb, Result, Ok, Err, Option, Some, None}
use Rattle.rules.specs.declared.Refusal.{Refusal}

infix 68 ◌≤?◌ ◌<?◌ ◌=?◌ ◌≠?◌
abbrev pub ◌≤?◌ : ℕ → ℕ → Bool
m ≤? n = leb m n

abbrev pub ◌<?◌ : ℕ → ℕ → Bool
m <? n = ltb m n

abbrev pub ◌=?◌ : ℕ → ℕ → Bool
m =? n = eqb m n

abbrev pub ◌≠?◌ : ℕ → ℕ → Bool
m ≠? n = not (eqb m n)

-- All of these pass.
unfoldable pub all : List Bool → Bool
all [] = true
all (t ∷ ts) = t && all ts

-- Every number below n passes.
unfoldable pub every : ℕ → (ℕ → Bool) → Bool
every zero p = true
every (suc n) p = every n p && p n

-- The first place, or the second where the first is none.
abbrev pub before : Option ℕ → Option ℕ → Option ℕ
before (Some i) q = Some i
before None q = q

-- The first number below n that passes.
unfoldable pub first : ℕ → (ℕ → Bool) → Option ℕ
first zero p = None
first (suc n) p = before (first n p) (cond (p n) (Some n) None)

-- There is no such place.
abbrev pub none : Option ℕ → Bool
none (Some i) = false
none None = true

-- There is such a place, and it passes.
abbrev pub at : Option ℕ → (ℕ → Bool) → Bool
at (Some i) p = p i
at None p = false

-- The paper's number for each refusal.
abbrev pub number_of : Refusal → ℕ
number_of Refusal.Invalid = 1
number_of Refusal.AreaShort = 2
number_of Refusal.Length = 3
number_of Refusal.Check = 4
number_of Refusal.Version = 5
number_of Refusal.Craft = 6
number_of Refusal.HeaderEnd = 7
number_of Refusal.Fields = 8
number_of Refusal.Unlisted = 9
number_of Refusal.CountLength = 10
number_of Refusal.OcfFlag = 11
number_of Refusal.DataField = 12
number_of Refusal.NoLane = 13
number_of Refusal.Batch = 14
number_of Refusal.Parts = 15
number_of Refusal.FrameNumber = 16

-- A row of the table: a refusal, and whether it applies.
pub record Row : Type 0 where
  pub refusal : Refusal
  pub applies : Bool

abbrev pub refuse : Refusal → Bool → Row
refuse e t = record { refusal = e; applies = t }

-- "The first that applies is given, and none otherwise": its number, where none is 0.
unfoldable pub given : List Row → ℕ
given [] = 0
given (r ∷ rs) = cond r.applies (number_of r.refusal) (given rs)

-- The same as an answer.
unfoldable pub answered : List Row → Result Unit Refusal
answered [] = Ok tt
answered (r ∷ rs) = cond r.applies (Err r.refusal) (answered rs)
