-- The table's method and the bits' agree on every input, where the table is that of the remainders.
use mathlib.Core.Path.{◌≡◌, refl, sym, ap, ap₂, ◌∙◌, subst}
use mathlib.Core.List.{List, [], ◌∷◌}
use Prim.Native.Nat.{ℕ, zero, suc, ◌+◌, ◌*◌, ◌/◌, ◌%◌, ◌^◌, ◌<◌}
use native.Mathlib.Nat.{add-zero, zero-add, add-suc, suc-add, mul-one, mul_assoc, pow-succ', le_of_suc-le-suc, not-suc-le-zero, lt_of_le_of_lt, mul-le-mul_left}
use native.Mathlib.Omega.{arith}
use lib.ListN.{get_or}
use lib.Bits.{bit_xor, xor_lt, xor_block, xor_shifted, xor_zero_r, xor_comm}
use lib.Dec.{lit<}
use lib.Pow.{pow_pos}
use borrow.Author.Tests.{lt-leb}
use Rattle.rules.specs.Octets.{check_bit, check_bits, check_from}
use Rattle.rules.proofs.Octets.{Octets, bits_below}
use Rattle.fecf.specs.Remainders.{remainder, remainders, step_by, from_by}
use Rattle.fecf.proofs.Linear.{shifts}

-- The rule of the table carried to an entry.
entry : (n i j : ℕ) → j < n → get_or (remainders i n) j 0 ≡ remainder (i + j)
unfolding remainders
entry zero i j h = absurd (not-suc-le-zero h)
entry (suc n) i zero h = ap remainder (sym (add-zero i))
entry (suc n) i (suc j) h = entry n (suc i) j (le_of_suc-le-suc h) ∙ ap remainder (suc-add i j ∙ sym (add-suc i j))

-- As long as no one comes out of the register, a shift doubles it.
double : (r : ℕ) → r < 32768 → check_bit r ≡ r * 2
unfolding check_bit
double r h = rw (lt-leb 0x8000 r h)

pub low : (k r : ℕ) → r * 2 ^ k < 65536 → check_bits k r ≡ r * 2 ^ k
unfolding check_bits
low zero r h = sym (mul-one r)
low (suc k) r h =
    let e : r * 2 ^ suc k ≡ r * 2 * 2 ^ k = ap (λ (n : ℕ). r * n) (pow-succ' 2 k) ∙ sym (mul_assoc r 2 (2 ^ k)) in
    let b : r * 2 * 2 ^ k < 65536 = subst (λ (n : ℕ). n < 65536) e h in
    let s : r * 2 * 1 < 65536 = lt_of_le_of_lt (mul-le-mul_left (r * 2) (pow_pos k)) b in
    ap (check_bits k) (double r (omega (arith, s))) ∙ low k (r * 2) b ∙ sym e

-- A register and an octet are what goes into the table, and what goes past it.
halves : (r x : ℕ) → r < 65536 → bit_xor r (x * 256) ≡ bit_xor (bit_xor (r / 256) x * 256) (r % 256)
halves r x h =
    let b : r % 256 < 256 = omega arith in
    let e : r ≡ r / 256 * 256 + r % 256 = omega arith in
    ap₂ bit_xor e (sym (add-zero (x * 256)))
    ∙ xor_block 8 (r / 256) x (r % 256) 0 b (lit< tt)
    ∙ ap (λ (n : ℕ). bit_xor (r / 256) x * 256 + n) (xor_zero_r (r % 256))
    ∙ sym (xor_shifted (bit_xor (r / 256) x) 8 (r % 256) b)

-- Moved up by an octet, a register keeps its low half alone.
pub moved : (r : ℕ) → r * 256 % 65536 ≡ r % 256 * 256
moved r = omega arith

-- A step by the table is eight shifts.
pub by-step : (t : List ℕ) → t ≡ remainders 0 256 → (r x : ℕ) → r < 65536 → x < 256 → step_by t r x ≡ check_bits 8 (bit_xor r (x * 0x100))
unfolding step_by remainder
by-step t e r x hr hx =
    let i = bit_xor (r / 256) x in
    let ih : i < 256 = xor_lt 8 (r / 256) x (omega arith) hx in
    ap₂ bit_xor (moved r ∙ sym (low 8 (r % 256) (omega arith))) (ap (λ (l : List ℕ). get_or l i 0) e ∙ entry 256 0 i ih ∙ ap remainder (zero-add i))
    ∙ xor_comm (check_bits 8 (r % 256)) (check_bits 8 (i * 256))
    ∙ sym (ap (check_bits 8) (halves r x hr) ∙ shifts 8 (i * 256) (r % 256) (omega arith) (omega arith))

-- And so it goes on over all octets.
pub by-table : (t : List ℕ) → t ≡ remainders 0 256 → (xs : List ℕ) → Octets xs → (r : ℕ) → r < 65536 → from_by t r xs ≡ check_from r xs
unfolding from_by check_from
by-table t e [] o r h = refl
by-table t e (x ∷ xs) o r h =
    ap (λ (n : ℕ). from_by t n xs) (by-step t e r x h o.0) ∙ by-table t e xs o.1 _ (bits_below 7 (bit_xor r (x * 0x100)))
