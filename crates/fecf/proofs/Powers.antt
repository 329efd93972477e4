-- The powers of the generator: what 16 shifts make of a register, 12 and 5 of them make together with the register itself; and so it is with twice as
-- many shifts, and with twice as many again. Only what 16 shifts make of the register 1 is computed.
use mathlib.Core.Path.{◌≡◌, refl, sym, ap, ap₂, ◌∙◌, subst}
use Prim.Native.Nat.{ℕ, zero, suc, ◌+◌, ◌*◌, ◌/◌, ◌%◌, ◌^◌, ◌<◌}
use native.Mathlib.Nat.{zero-add, suc-add, add_comm, pow-succ'}
use native.Mathlib.Omega.{arith}
use lib.Arith.{bin_ind}
use lib.Bits.{bit_xor, xor_lt, xor_shifted}
use Rattle.rules.specs.Octets.{check_bit, check_bits}
use Rattle.rules.proofs.Octets.{bits_below}
use Rattle.fecf.proofs.Xor.{xor_four, xor-between}
use Rattle.fecf.proofs.Linear.{shifts}
use Rattle.fecf.proofs.Agreement.{low}

-- ---- shifts

pub shifted-below : (k r : ℕ) → r < 65536 → check_bits k r < 65536
unfolding check_bits
shifted-below zero r h = h
shifted-below (suc k) r h = bits_below k r

pub shifts_add : (j k r : ℕ) → check_bits (j + k) r ≡ check_bits k (check_bits j r)
unfolding check_bits
shifts_add zero k r = ap (λ (n : ℕ). check_bits n r) (zero-add k)
shifts_add (suc j) k r = ap (λ (n : ℕ). check_bits n r) (suc-add j k) ∙ shifts_add j k (check_bit r)

pub shifts_swap : (j k r : ℕ) → check_bits j (check_bits k r) ≡ check_bits k (check_bits j r)
shifts_swap j k r = sym (shifts_add k j r) ∙ ap (λ (n : ℕ). check_bits n r) (add_comm k j) ∙ shifts_add j k r

-- The sum of three, shifted.
pub shifts_three : (k a b c : ℕ) → a < 65536 → b < 65536 → c < 65536
    → check_bits k (bit_xor (bit_xor a b) c) ≡ bit_xor (bit_xor (check_bits k a) (check_bits k b)) (check_bits k c)
shifts_three k a b c ha hb hc =
    shifts k (bit_xor a b) c (xor_lt 16 a b ha hb) hc ∙ ap (λ (n : ℕ). bit_xor n (check_bits k c)) (shifts k a b ha hb)

-- ---- powers

-- 16n shifts of a register are 12n and 5n and none of them, added.
abbrev Fold : ℕ → ℕ → Type 0
Fold n r = check_bits (16 * n) r ≡ bit_xor (bit_xor (check_bits (12 * n) r) (check_bits (5 * n) r)) r

-- That is so of every register.
abbrev pub Folds : ℕ → Type 0
Folds n = (r : ℕ) → r < 65536 → Fold n r

-- So of a sum, where it is so of both.
of_sum : (n a b : ℕ) → a < 65536 → b < 65536 → Fold n a → Fold n b → Fold n (bit_xor a b)
of_sum n a b ha hb ea eb =
    let p = check_bits (12 * n) a in
    let q = check_bits (5 * n) a in
    let s = check_bits (12 * n) b in
    let t = check_bits (5 * n) b in
    shifts (16 * n) a b ha hb
    ∙ ap₂ bit_xor ea eb
    ∙ xor_four (bit_xor p q) a (bit_xor s t) b
    ∙ ap (λ (m : ℕ). bit_xor m (bit_xor a b)) (xor_four p q s t)
    ∙ sym (ap₂ (λ (j k : ℕ). bit_xor (bit_xor j k) (bit_xor a b)) (shifts (12 * n) a b ha hb) (shifts (5 * n) a b ha hb))

-- And of a register that is shifted.
of_shifted : (n k r : ℕ) → r < 65536 → Fold n r → Fold n (check_bits k r)
of_shifted n k r h e =
    let p = check_bits (12 * n) r in
    let q = check_bits (5 * n) r in
    shifts_swap (16 * n) k r
    ∙ ap (check_bits k) e
    ∙ shifts_three k p q r (shifted-below (12 * n) r h) (shifted-below (5 * n) r h) h
    ∙ ap₂ (λ (i j : ℕ). bit_xor (bit_xor i j) (check_bits k r)) (shifts_swap k (12 * n) r) (shifts_swap k (5 * n) r)

-- The generator's own line, computed: of the register 1, and of 0.
of_bit : (b : ℕ) → b < 2 → Fold 1 b
unfolding check_bits check_bit
of_bit zero h = refl
of_bit (suc zero) h = refl
of_bit (suc (suc b)) h = absurd (omega arith)

-- A register is its half, shifted once, and its last bit.
by_halves : (r : ℕ) → r < 65536 → bit_xor (check_bits 1 (r / 2)) (r % 2) ≡ r
by_halves r h =
    let small : r / 2 * 2 ^ 1 < 65536 = omega arith in
    let bit : r % 2 < 2 ^ 1 = omega arith in
    let whole : r / 2 * 2 ^ 1 + r % 2 ≡ r = omega arith in
    ap (λ (n : ℕ). bit_xor n (r % 2)) (low 1 (r / 2) small) ∙ xor_shifted (r / 2) 1 (r % 2) bit ∙ whole

generator : Folds 1
generator =
    bin_ind (λ (n : ℕ). n < 65536 → Fold 1 n) (λ h. of_bit 0 (omega arith))
    (λ n half h.
    let b : n / 2 < 65536 = omega arith in
    subst (Fold 1) (by_halves n h)
    (of_sum 1 (check_bits 1 (n / 2)) (n % 2) (shifted-below 1 (n / 2) b) (omega arith) (of_shifted 1 1 (n / 2) b (half b)) (of_bit (n % 2) (omega arith))))

cancelled : (p q s a b r : ℕ) → bit_xor (bit_xor (bit_xor (bit_xor p q) a) (bit_xor (bit_xor q s) b)) (bit_xor (bit_xor a b) r) ≡ bit_xor (bit_xor p s) r
cancelled p q s a b r =
    ap (λ (n : ℕ). bit_xor n (bit_xor (bit_xor a b) r)) (xor_four (bit_xor p q) a (bit_xor q s) b ∙ ap (λ (n : ℕ). bit_xor n (bit_xor a b)) (xor-between p q s))
    ∙ xor-between (bit_xor p s) (bit_xor a b) r

-- A power's square: what was added twice is gone.
squared : (n : ℕ) → Folds n → Folds (n + n)
squared n f r h =
    let a = check_bits (12 * n) r in
    let b = check_bits (5 * n) r in
    let ha : a < 65536 = shifted-below (12 * n) r h in
    let hb : b < 65536 = shifted-below (5 * n) r h in
    let all : 16 * (n + n) ≡ 16 * n + 16 * n = omega arith in
    let twelve : 12 * n + 12 * n ≡ 12 * (n + n) = omega arith in
    let five : 5 * n + 5 * n ≡ 5 * (n + n) = omega arith in
    ap (λ (m : ℕ). check_bits m r) all
    ∙ shifts_add (16 * n) (16 * n) r
    ∙ ap (check_bits (16 * n)) (f r h)
    ∙ shifts_three (16 * n) a b r ha hb h
    ∙ ap₂ bit_xor
    (ap₂ bit_xor (f a ha) (f b hb ∙ ap (λ (m : ℕ). bit_xor (bit_xor m (check_bits (5 * n) b)) b) (shifts_swap (12 * n) (5 * n) r)))
    (f r h)
    ∙ cancelled (check_bits (12 * n) a) (check_bits (5 * n) a) (check_bits (5 * n) b) a b r
    ∙ ap₂ (λ (m s : ℕ). bit_xor (bit_xor m s) r)
    (sym (shifts_add (12 * n) (12 * n) r) ∙ ap (λ (m : ℕ). check_bits m r) twelve)
    (sym (shifts_add (5 * n) (5 * n) r) ∙ ap (λ (m : ℕ). check_bits m r) five)

-- The generator's power of 2^k, for every k.
pub power : (k : ℕ) → Folds (2 ^ k)
power zero = generator
power (suc k) =
    let twice : 2 ^ k + 2 ^ k ≡ 2 ^ suc k = (let t : 2 ^ k + 2 ^ k ≡ 2 * 2 ^ k = omega arith in t ∙ sym (pow-succ' 2 k)) in
    subst Folds twice (squared (2 ^ k) (power k))
