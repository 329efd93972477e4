-- The frame check by a table. "Use a table of 256 remainders; its rule is shown once for all entries, and table and bit-by-bit method agree on
-- every input." The rule of the check stays bit by bit (rules/Octets.check_of).
use Rattle.std.specs.Prelude.{ℕ, zero, suc, ◌*◌, ◌/◌, ◌%◌, List, [], ◌∷◌, get_or}
use Rattle.std.specs.Int.Bits.{bit_xor}
use Rattle.rules.specs.Octets.{check_bits}

-- The remainder of i: the register with i in its high half and zeros in its low half, shifted eight times.
unfoldable pub remainder : ℕ → ℕ
remainder i = check_bits 8 (i * 0x100)

-- Those of n numbers, from i on.
unfoldable pub remainders : ℕ → ℕ → List ℕ
remainders i zero = []
remainders i (suc n) = remainder i ∷ remainders (suc i) n

-- The register after an octet, by a table. Its low half moves up. Its high half moves out and says, with the octet added to it, which entry is added.
unfoldable pub step_by : List ℕ → ℕ → ℕ → ℕ
step_by table r x = bit_xor (r * 0x100 % 0x10000) (get_or table (bit_xor (r / 0x100) x) 0)

-- The register after octets, one after another.
unfoldable pub from_by : List ℕ → ℕ → List ℕ → ℕ
from_by table r [] = r
from_by table r (x ∷ xs) = from_by table (step_by table r x) xs
