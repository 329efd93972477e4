-- The frame check of long inputs by powers of its generator. For u = 1, 2, 4 and so on the 8u-th power of x^16 + x^12 + x^5 + 1 is
-- x^128u + x^96u + x^40u + 1: an octet may be taken away if it is added to those 4u, 11u and 16u octets behind it. The rule of the check stays bit by
-- bit (rules/Octets.check_of).
use Rattle.std.specs.Prelude.{ℕ, ◌-◌, ◌*◌, cond, List, [], ◌∷◌, ◌++◌, length, get_or, take, drop, replicate}
use Rattle.std.specs.Int.Bits.{bit_xor}
use Rattle.rules.specs.Tests.{◌≤?◌}
use Rattle.fecf.specs.Remainders.{from_by}

-- The long register is the last 16u octets that were taken away. The next one to be taken away: the input's next octet, and added to it those
-- 4u, 11u and 16u octets before it.
unfoldable pub next : ℕ → List ℕ → ℕ → ℕ
next u long x = bit_xor (bit_xor (bit_xor x (get_or long (12 * u) 0)) (get_or long (5 * u) 0)) (get_or long 0 0)

-- The long register carried on over octets.
unfoldable pub carried : ℕ → List ℕ → List ℕ → List ℕ
carried u long [] = long
carried u long (x ∷ xs) = carried u (drop 1 long ++ next u long x ∷ []) xs

-- Octets added to the first ones of others.
unfoldable pub plus : List ℕ → List ℕ → List ℕ
plus [] ys = ys
plus (x ∷ xs) [] = []
plus (x ∷ xs) (y ∷ ys) = bit_xor y x ∷ plus xs ys

-- To each octet the one is added that stands d octets later.
unfoldable pub later : ℕ → List ℕ → List ℕ
later d xs = plus (drop d xs) xs

-- What a long register adds to the octets behind it.
unfoldable pub closed : ℕ → List ℕ → List ℕ
closed u long = later (5 * u) (later (12 * u) long)

-- The long register of one whose two octets are both f.
unfoldable pub preset : ℕ → ℕ → List ℕ
preset u f = f ∷ f ∷ replicate (16 * u - 2) 0

-- The last 16u of some octets, and added to them what a long register adds after it was carried on over those before.
unfoldable pub shorter : ℕ → List ℕ → List ℕ → List ℕ
shorter u long xs = plus (drop (length xs - 16 * u) xs) (closed u (carried u long (take (length xs - 16 * u) xs)))

-- By the 64th, the 32nd and the 16th power: 32 octets are left of 128 or more, from a register whose two octets are both f.
unfoldable pub shortest : ℕ → List ℕ → List ℕ
shortest f xs = shorter 2 (preset 2 0) (shorter 4 (preset 4 0) (shorter 8 (preset 8 f) xs))

-- The check by a table and by powers of the generator: more than 256 octets are made shorter by the 128th power first; fewer than 128 go by the table
-- alone.
unfoldable pub check_by : List ℕ → List ℕ → ℕ
check_by table xs =
    cond (128 ≤? length xs)
    (cond (257 ≤? length xs) (from_by table 0 (shortest 0 (shorter 16 (preset 16 0xFF) xs))) (from_by table 0 (shortest 0xFF xs)))
    (from_by table 0xFFFF xs)
