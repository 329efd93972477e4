-- What the steps of finding a place promise each other. What is quoted does not stand on it.
use Rattle.std.specs.Prelude.{ℕ, suc, ◌+◌, ◌-◌, ◌≤◌, ◌≡◌, List, [], length, take, drop, get_or}
use Rattle.setting_text.specs.Texts.{lines}

-- These octets of the text are `xs`.
pub record Part (xs t : List ℕ) (from to : ℕ) : Type 0 where
  pub octets : xs ≡ take (to - from) (drop from t)
  pub forward : from ≤ to
  pub within : to ≤ length t

-- The line from octet `at` on stands there, and the lines after it follow the octet that ends it.
pub record Line (t : List ℕ) (at from to : ℕ) : Type 0 where
  pub part : Part (get_or (lines (drop at t)) 0 []) t from to
  pub after : (j : ℕ) → get_or (lines (drop at t)) (suc j) [] ≡ get_or (lines (drop (to + 1) t)) j []
