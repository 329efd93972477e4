-- Shifts are linear: the sum of two registers, shifted, is the sum of the two shifted. Proved once, over all registers and any number of shifts.
use mathlib.Core.Path.{◌≡◌, refl, sym, ap, ap₂, ◌∙◌}
use Prim.Native.Nat.{ℕ, zero, suc, ◌*◌, ◌/◌, ◌%◌, ◌≤◌, ◌<◌}
use native.Mathlib.Omega.{arith}
use lib.Bits.{bit_xor, xor_shr, xor_mod, xor_lt, xor_zero_r}
use borrow.Author.Tests.{le-leb, lt-leb}
use Rattle.rules.specs.Octets.{check_bit, check_bits}
use Rattle.rules.proofs.Tests.{split}
use Rattle.rules.proofs.Octets.{bit_below}
use Rattle.fecf.proofs.Xor.{xor_four, xor_times}

-- A shift doubles the register, modulo 2^16, and adds the generator as often as the bit says that comes out.
by_bit : (r : ℕ) → r < 65536 → check_bit r ≡ bit_xor (r * 2 % 65536) (r / 32768 * 0x1021)
unfolding check_bit
by_bit r b = split 0x8000 r one none where
  one : 0x8000 ≤ r → check_bit r ≡ bit_xor (r * 2 % 65536) (r / 32768 * 0x1021)
  one h =
      let e : 0x1021 ≡ r / 32768 * 0x1021 = omega arith in
      simp (le-leb _ _ h) (ap (bit_xor (r * 2 % 65536)) e)

  none : r < 0x8000 → check_bit r ≡ bit_xor (r * 2 % 65536) (r / 32768 * 0x1021)
  none h =
      let e : r * 2 ≡ r * 2 % 65536 = omega arith in
      let z : 0 ≡ r / 32768 * 0x1021 = omega arith in
      simp (lt-leb _ _ h) (e ∙ sym (xor_zero_r (r * 2 % 65536)) ∙ ap (bit_xor (r * 2 % 65536)) z)

times : (f g : ℕ) → f < 2 → g < 2 → bit_xor f g * 0x1021 ≡ bit_xor (f * 0x1021) (g * 0x1021)
times zero g hf hg = refl
times (suc zero) zero hf hg = refl
times (suc zero) (suc zero) hf hg = refl
times (suc zero) (suc (suc g)) hf hg = absurd (omega arith)
times (suc (suc f)) g hf hg = absurd (omega arith)

one_shift : (a b : ℕ) → a < 65536 → b < 65536 → check_bit (bit_xor a b) ≡ bit_xor (check_bit a) (check_bit b)
one_shift a b ha hb =
    by_bit (bit_xor a b) (xor_lt 16 a b ha hb)
    ∙ ap₂ bit_xor
    (ap (λ (n : ℕ). n % 65536) (xor_times 1 a b) ∙ xor_mod (a * 2) (b * 2) 16)
    (ap (λ (n : ℕ). n * 0x1021) (xor_shr a b 15) ∙ times (a / 32768) (b / 32768) (omega arith) (omega arith))
    ∙ xor_four (a * 2 % 65536) (b * 2 % 65536) (a / 32768 * 0x1021) (b / 32768 * 0x1021)
    ∙ sym (ap₂ bit_xor (by_bit a ha) (by_bit b hb))

pub shifts : (k a b : ℕ) → a < 65536 → b < 65536 → check_bits k (bit_xor a b) ≡ bit_xor (check_bits k a) (check_bits k b)
unfolding check_bits
shifts zero a b ha hb = refl
shifts (suc k) a b ha hb = ap (check_bits k) (one_shift a b ha hb) ∙ shifts k (check_bit a) (check_bit b) (bit_below a) (bit_below b)
