-- Added numbers (`bit_xor`) go in any order: `lib.Bits` has that two do, here it is three and four. Two of the same are none, and a sum may be moved up.
use mathlib.Core.Path.{◌≡◌, refl, sym, ap, ap₂, ◌∙◌}
use Prim.Native.Nat.{ℕ, ◌+◌, ◌*◌, ◌/◌, ◌%◌, ◌^◌}
use native.Mathlib.Nat.{add-zero}
use native.Mathlib.Omega.{arith}
use lib.Arith.{bin_ind}
use lib.Bits.{bit_xor, xor_add_and, xor_shr, xor_comm, xor_block, xor_self, xor_zero_l}
use lib.Pow.{pow_pos}

parity : (a b : ℕ) → bit_xor a b % 2 ≡ (a + b) % 2
parity a b = omega (arith, xor_add_and a b)

by_digits : (a b : ℕ) → a / 2 ≡ b / 2 → a % 2 ≡ b % 2 → a ≡ b
by_digits a b half odd = omega arith

more : (s t c : ℕ) → s % 2 ≡ t % 2 → (s + c) % 2 ≡ (t + c) % 2
more s t c e = omega arith

turned : (a b c : ℕ) → a + b + c ≡ b + c + a
turned a b c = omega arith

last_digit : (a b c : ℕ) → bit_xor (bit_xor a b) c % 2 ≡ bit_xor a (bit_xor b c) % 2
last_digit a b c =
    parity (bit_xor a b) c
    ∙ more (bit_xor a b) (a + b) c (parity a b)
    ∙ ap (λ (n : ℕ). n % 2) (turned a b c)
    ∙ sym (ap (λ (n : ℕ). n % 2) (xor_comm a (bit_xor b c)) ∙ parity (bit_xor b c) a ∙ more (bit_xor b c) (b + c) a (parity b c))

digits-before : (a b c : ℕ) → bit_xor (bit_xor (a / 2) (b / 2)) (c / 2) ≡ bit_xor (a / 2) (bit_xor (b / 2) (c / 2))
    → bit_xor (bit_xor a b) c / 2 ≡ bit_xor a (bit_xor b c) / 2
digits-before a b c h =
    xor_shr (bit_xor a b) c 1
    ∙ ap (λ (n : ℕ). bit_xor n (c / 2)) (xor_shr a b 1)
    ∙ h
    ∙ ap (bit_xor (a / 2)) (sym (xor_shr b c 1))
    ∙ sym (xor_shr a (bit_xor b c) 1)

pub xor_assoc : (a b c : ℕ) → bit_xor (bit_xor a b) c ≡ bit_xor a (bit_xor b c)
xor_assoc a =
    bin_ind (λ (n : ℕ). (b c : ℕ) → bit_xor (bit_xor n b) c ≡ bit_xor n (bit_xor b c)) (λ b c. refl)
    (λ n h b c. by_digits _ _ (digits-before n b c (h (b / 2) (c / 2))) (last_digit n b c))
    a

pub xor_four : (a b c d : ℕ) → bit_xor (bit_xor a b) (bit_xor c d) ≡ bit_xor (bit_xor a c) (bit_xor b d)
xor_four a b c d =
    xor_assoc a b (bit_xor c d)
    ∙ ap (bit_xor a) (sym (xor_assoc b c d) ∙ ap (λ (m : ℕ). bit_xor m d) (xor_comm b c) ∙ xor_assoc c b d)
    ∙ sym (xor_assoc a c (bit_xor b d))

-- What is added twice is not added.
pub xor-between : (a m b : ℕ) → bit_xor (bit_xor a m) (bit_xor m b) ≡ bit_xor a b
xor-between a m b =
    xor_assoc a m (bit_xor m b)
    ∙ ap (bit_xor a) (sym (xor_assoc m m b) ∙ ap (λ (n : ℕ). bit_xor n b) (xor_self m) ∙ xor_zero_l b)

-- A sum moved up is the sum of what is moved up.
pub xor_times : (k a b : ℕ) → bit_xor a b * 2 ^ k ≡ bit_xor (a * 2 ^ k) (b * 2 ^ k)
xor_times k a b =
    sym (ap₂ bit_xor (sym (add-zero (a * 2 ^ k))) (sym (add-zero (b * 2 ^ k))) ∙ xor_block k a b 0 0 (pow_pos k) (pow_pos k) ∙ add-zero (bit_xor a b * 2 ^ k))
