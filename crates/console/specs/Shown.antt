-- How names and words of others are printed.
use Rattle.std.specs.Prelude.{ℕ, cond, List, [], ◌∷◌}
use Rattle.rules.specs.Tests.{◌<?◌, ◌=?◌}

-- "Of its octets those below 32, and 127, are printed as `?`."
unfoldable pub plain_of : ℕ → ℕ
plain_of x = cond (x <? 32) 63 (cond (x =? 127) 63 x)

unfoldable pub shown : List ℕ → List ℕ
shown [] = []
shown (x ∷ xs) = plain_of x ∷ shown xs
