-- Numbers in octets. A number has eight octets; a row is eight numbers, 64 octets.
use Rattle.std.specs.Prelude.{ℕ, ◌*◌, List, [], ◌∷◌, ◌++◌, take, drop}
use Rattle.rules.specs.Octets.{be, num}

-- Number i of octets.
unfoldable pub word : List ℕ → ℕ → ℕ
word xs i = num (take 8 (drop (8 * i) xs))

-- Numbers as octets.
unfoldable pub spelled : List ℕ → List ℕ
spelled [] = []
spelled (n ∷ ns) = be 8 n ++ spelled ns
