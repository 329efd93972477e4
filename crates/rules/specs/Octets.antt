-- Octets and numbers. "Numbers are big-endian; bit 0 is the first and highest."
use Rattle.std.specs.Prelude.{ℕ, zero, suc, ◌+◌, ◌-◌, ◌*◌, ◌/◌, ◌%◌, ◌^◌, Bool, true, false, cond, List, [], ◌∷◌, length, get_or, take}
use Rattle.std.specs.Int.Bits.{bit_xor}
use Rattle.rules.specs.Tests.{◌≤?◌}

-- A number modulo 256^n in n octets, the highest first.
unfoldable pub be : ℕ → ℕ → List ℕ
be zero v = []
be (suc n) v = v / 256 ^ n % 256 ∷ be n v

-- The number that octets spell.
unfoldable pub num : List ℕ → ℕ
num [] = 0
num (x ∷ xs) = x * 256 ^ length xs + num xs

-- A field: how many bits it has, and the number in them.
pub record Field : Type 0 where
  pub width : ℕ
  pub value : ℕ

abbrev pub field : ℕ → ℕ → Field
field w v = record { width = w; value = v }

-- How many bits fields have together.
unfoldable pub widths : List Field → ℕ
widths [] = 0
widths (f ∷ fs) = f.width + widths fs

-- The number that fields make, one after another, the first one the highest.
unfoldable pub packed : List Field → ℕ
packed [] = 0
packed (f ∷ fs) = f.value * 2 ^ widths fs + packed fs

-- The number in the `width` bits from bit `from` on, of n octets at the front of some.
unfoldable pub bits : ℕ → ℕ → ℕ → List ℕ → ℕ
bits n from width xs = num (take n xs) / 2 ^ (8 * n - (from + width)) % 2 ^ width

-- Fields of these widths with these numbers in them.
abbrev pub fields_of : List ℕ → List ℕ → List Field
fields_of [] vs = []
fields_of (w ∷ ws) [] = []
fields_of (w ∷ ws) (v ∷ vs) = field w v ∷ fields_of ws vs

-- How many bits there are together.
abbrev pub total : List ℕ → ℕ
total [] = 0
total (w ∷ ws) = w + total ws

-- The number in field i, of fields of these widths one after another at the front of some octets.
abbrev pub field_in : List ℕ → ℕ → List ℕ → ℕ
field_in ws i xs = bits (total ws / 8) (total (take i ws)) (get_or ws i 0) xs

-- A flag as a bit.
abbrev pub flag : Bool → ℕ
flag true = 1
flag false = 0

-- "The check has generator x^16+x^12+x^5+1 and a register preset to ones, over all octets before it."
-- As 000's annex B1 has it: the register is shifted one bit; where a one comes out, the generator is added.
unfoldable pub check_bit : ℕ → ℕ
check_bit r = cond (0x8000 ≤? r) (bit_xor (r * 2 % 0x10000) 0x1021) (r * 2)

unfoldable pub check_bits : ℕ → ℕ → ℕ
check_bits zero r = r
check_bits (suc k) r = check_bits k (check_bit r)

-- The eight bits of an octet are added at the register's high end, which is then shifted eight times.
unfoldable pub check_from : ℕ → List ℕ → ℕ
check_from r [] = r
check_from r (x ∷ xs) = check_from (check_bits 8 (bit_xor r (x * 0x100))) xs

unfoldable pub check_of : List ℕ → ℕ
check_of xs = check_from 0xFFFF xs
