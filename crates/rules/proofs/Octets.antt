-- Numbers and octets, once over n; fields, once over their place and width; the frame check has sixteen bits.
use mathlib.Core.Path.{◌≡◌, refl, sym, ap, ap₂, ◌∙◌}
use Prim.Native.Nat.{ℕ, zero, suc, ◌+◌, ◌-◌, ◌*◌, ◌/◌, ◌%◌, ◌^◌, ◌≤◌, ◌<◌}
use native.Mathlib.Nat.{zero-lt-suc, one-le-pow, pow-le-pow_right, pow-zero, pow-succ', mod-one, mod-lt, mod-eq_of_lt, mul-add-div_right, mul-add-mod_self_right, mul_assoc, add_assoc, zero-add}
use native.Mathlib.Omega.{arith}
use mathlib.Core.Bool.{Bool, true, false}
use mathlib.Core.List.{List, [], ◌∷◌, ◌++◌}
use lib.ListN.{length, get_or, take, drop, length-take}
use lib.Seq.{take_at, split_at, drop-cons}
use lib.Pow.{pow-add, high, low}
use lib.Arith.{mod-mul, digits_lt}
use lib.Bits.{bit_xor, xor_lt}
use lib.Dec.{lit<}
use borrow.Author.Tests.{le-leb, lt-leb}
use Rattle.rules.specs.Octets.{be, num, Field, field, widths, packed, bits, flag, check_bit, check_bits, check_from, check_of}
use Rattle.rules.proofs.Tests.{split}

-- ---- numbers in octets

pub pow256_pos : (n : ℕ) → 0 < 256 ^ n
pow256_pos n = one-le-pow n 256 (zero-lt-suc 255)

pub length-be : (n v : ℕ) → length (be n v) ≡ n
unfolding be
length-be zero v = refl
length-be (suc n) v = ap suc (length-be n v)

-- There and back: the number modulo 256^n.
pub num-be : (n v : ℕ) → num (be n v) ≡ v % 256 ^ n
unfolding be num
num-be zero v = rw pow-zero (sym (mod-one v))
num-be (suc n) v =
    rw (length-be n v, num-be n v) (sym (ap (λ (x : ℕ). v % x) (pow-succ' 256 n) ∙ mod-mul v (zero-lt-suc 255) (pow256_pos n)))

pub num-be-below : (n v : ℕ) → v < 256 ^ n → num (be n v) ≡ v
num-be-below n v h = num-be n v ∙ mod-eq_of_lt h

-- What is a multiple of 256^n more has the same n octets.
be-more : (n a v : ℕ) → be n (a * 256 ^ n + v) ≡ be n v
unfolding be
be-more zero a v = refl
be-more (suc n) a v =
    let e : a * 256 ^ suc n + v ≡ a * 256 * 256 ^ n + v = ap (λ (x : ℕ). x + v) (ap (λ (x : ℕ). a * x) (pow-succ' 256 n) ∙ sym (mul_assoc a 256 (256 ^ n))) in
    ap₂ ◌∷◌
    (ap (λ (x : ℕ). x / 256 ^ n % 256) e ∙ ap (λ (x : ℕ). x % 256) (mul-add-div_right (pow256_pos n) (a * 256) v) ∙ mul-add-mod_self_right a 256 (v / 256 ^ n))
    (ap (be n) e ∙ be-more n (a * 256) v)

-- Each of these is an octet.
abbrev pub Octets : List ℕ → Type 0
Octets [] = Unit {0}
Octets (x ∷ xs) = (x < 256) × Octets xs

pub octets_each : (xs : List ℕ) → ((i : ℕ) → get_or xs i 0 < 256) → Octets xs
octets_each [] h = tt
octets_each (x ∷ xs) h = (h 0, octets_each xs (λ i. h (suc i)))

pub octets_take : (n : ℕ) (xs : List ℕ) → Octets xs → Octets (take n xs)
octets_take zero xs o = tt
octets_take (suc n) [] o = tt
octets_take (suc n) (x ∷ xs) o = (o.0, octets_take n xs o.1)

pub octets_drop : (n : ℕ) (xs : List ℕ) → Octets xs → Octets (drop n xs)
octets_drop zero xs o = o
octets_drop (suc n) [] o = tt
octets_drop (suc n) (x ∷ xs) o = octets_drop n xs o.1

pub num-below : (xs : List ℕ) → Octets xs → num xs < 256 ^ length xs
unfolding num
num-below [] o = rw pow-zero (zero-lt-suc 0)
num-below (x ∷ xs) o = rw (pow-succ' 256 (length xs)) (digits_lt o.0 (num-below xs o.1))

-- What n octets at most spell is below 256^n.
pub num-part : (n : ℕ) (xs : List ℕ) → Octets xs → num (take n xs) < 256 ^ n
num-part n xs o =
    let b = num-below (take n xs) (octets_take n xs o) in
    let k = length-take n xs in
    let h : 256 ^ length (take n xs) ≤ 256 ^ n = pow-le-pow_right (zero-lt-suc 255) (omega arith) in
    omega arith

-- Back and there: the octets.
pub be-num : (xs : List ℕ) → Octets xs → be (length xs) (num xs) ≡ xs
unfolding be num
be-num [] o = refl
be-num (x ∷ xs) o =
    ap₂ ◌∷◌
    (ap (λ (y : ℕ). y % 256) (mul-add-div_right (pow256_pos (length xs)) x (num xs))
    ∙ ap (λ (y : ℕ). (x + y) % 256) (native.Mathlib.Nat.div-eq_of_lt (num-below xs o.1))
    ∙ ap (λ (y : ℕ). y % 256) (native.Mathlib.Nat.add-zero x) ∙ mod-eq_of_lt o.0)
    (be-more (length xs) x (num xs) ∙ be-num xs o.1)

pub be_octets : (n v : ℕ) → Octets (be n v)
unfolding be
be_octets zero v = tt
be_octets (suc n) v = (mod-lt (v / 256 ^ n) (zero-lt-suc 255), be_octets n v)

-- ---- fields

-- Each number fits its field.
abbrev pub Fit : List Field → Type 0
Fit [] = Unit {0}
Fit (f ∷ fs) = (f.value < 2 ^ f.width) × Fit fs

packed-below : (fs : List Field) → Fit fs → packed fs < 2 ^ widths fs
unfolding packed widths
packed-below [] o = zero-lt-suc 0
packed-below (f ∷ fs) o = rw (pow-add 2 f.width (widths fs)) (digits_lt o.0 (packed-below fs o.1))

widths_append : (es bs : List Field) → widths (es ++ bs) ≡ widths es + widths bs
unfolding widths
widths_append [] bs = sym (zero-add (widths bs))
widths_append (e ∷ es) bs = ap (λ (x : ℕ). e.width + x) (widths_append es bs) ∙ sym (add_assoc e.width (widths es) (widths bs))

regroup : (v x y p q : ℕ) → v * (x * y) + (p * y + q) ≡ (v * x + p) * y + q
regroup v x y p q = omega arith

packed_append : (es bs : List Field) → packed (es ++ bs) ≡ packed es * 2 ^ widths bs + packed bs
unfolding packed widths
packed_append [] bs = omega arith
packed_append (e ∷ es) bs =
    let w : 2 ^ widths (es ++ bs) ≡ 2 ^ widths es * 2 ^ widths bs = ap (λ (x : ℕ). 2 ^ x) (widths_append es bs) ∙ pow-add 2 (widths es) (widths bs) in
    ap₂ (λ (x y : ℕ). e.value * x + y) w (packed_append es bs) ∙ regroup e.value (2 ^ widths es) (2 ^ widths bs) (packed es) (packed bs)

fit_drop : (fs : List Field) (k : ℕ) → Fit fs → Fit (drop k fs)
fit_drop fs zero o = o
fit_drop [] (suc k) o = tt
fit_drop (f ∷ fs) (suc k) o = fit_drop fs k o.1

-- The field between others, from the number that they all make.
field_back : (es : List Field) (f : Field) (bs : List Field) → Fit (f ∷ bs) → packed (es ++ f ∷ bs) / 2 ^ widths bs % 2 ^ f.width ≡ f.value
unfolding packed widths
field_back es f bs o =
    let w : 2 ^ (f.width + widths bs) ≡ 2 ^ f.width * 2 ^ widths bs = pow-add 2 f.width (widths bs) in
    ap (λ (x : ℕ). x / 2 ^ widths bs % 2 ^ f.width)
    (packed_append es (f ∷ bs) ∙ ap (λ (x : ℕ). packed es * x + (f.value * 2 ^ widths bs + packed bs)) w
    ∙ regroup (packed es) (2 ^ f.width) (2 ^ widths bs) f.value (packed bs))
    ∙ ap (λ (x : ℕ). x % 2 ^ f.width) (high (packed es * 2 ^ f.width + f.value) (widths bs) (packed-below bs o.1))
    ∙ low (packed es) f.width o.0

pow_octets : (n : ℕ) → 256 ^ n ≡ 2 ^ (8 * n)
pow_octets zero = refl
pow_octets (suc n) =
    let e : 8 * suc n ≡ 8 + 8 * n = omega arith in
    pow-succ' 256 n ∙ ap (λ (x : ℕ). 256 * x) (pow_octets n) ∙ sym (ap (λ (x : ℕ). 2 ^ x) e ∙ pow-add 2 8 (8 * n))

-- Fields that fill n octets and fit are read back, each at its place: the k-th of them.
pub bits_back : (n : ℕ) (fs : List Field) (k : ℕ) (rest : List ℕ) → k < length fs → Fit fs → widths fs ≡ 8 * n
    → bits n (widths (take k fs)) (get_or fs k (field 0 0)).width (be n (packed fs) ++ rest) ≡ (get_or fs k (field 0 0)).value
unfolding bits widths
bits_back n fs k rest h o w =
    let f : Field = get_or fs k (field 0 0) in
    let bs : List Field = drop (suc k) fs in
    let s : fs ≡ take k fs ++ f ∷ bs = split_at fs k (field 0 0) h in
    let e : 8 * n - (widths (take k fs) + f.width) ≡ widths bs = exponent (widths fs) (widths (take k fs)) f.width (widths bs) n w
    (ap widths s ∙ widths_append (take k fs) (f ∷ bs)) in
    let b : packed fs < 256 ^ n = rw (pow_octets n, ← w) (packed-below fs o) in
    let g : Fit (f ∷ bs) = rw (drop-cons fs k (field 0 0) h) at (fit_drop fs k o) in
    ap (λ (x : List ℕ). num x / 2 ^ (8 * n - (widths (take k fs) + f.width)) % 2 ^ f.width) (take_at (be n (packed fs)) rest n (length-be n (packed fs)))
    ∙ ap₂ (λ (x y : ℕ). x / 2 ^ y % 2 ^ f.width) (num-be-below n (packed fs) b ∙ ap packed s) e
    ∙ field_back (take k fs) f bs g
  where
    exponent : (a b c d n : ℕ) → a ≡ 8 * n → a ≡ b + (c + d) → 8 * n - (b + c) ≡ d
    exponent a b c d n p q = omega arith

-- A flag is a bit.
pub flag_small : (t : Bool) → flag t ≤ 1
flag_small true = omega arith
flag_small false = omega arith

-- ---- the frame check

pub bit_below : (r : ℕ) → check_bit r < 65536
unfolding check_bit
bit_below r =
    split 0x8000 r
    (λ h. simp (le-leb _ _ h) (xor_lt 16 (r * 2 % 65536) 0x1021 (mod-lt (r * 2) (lit< tt)) (lit< tt)))
    (λ h. simp (lt-leb _ _ h) (omega arith))

pub bits_below : (k r : ℕ) → check_bits (suc k) r < 65536
unfolding check_bits
bits_below zero r = bit_below r
bits_below (suc k) r = bits_below k (check_bit r)

from-below : (xs : List ℕ) (r : ℕ) → r < 65536 → check_from r xs < 65536
unfolding check_from
from-below [] r h = h
from-below (x ∷ xs) r h = from-below xs (check_bits 8 (bit_xor r (x * 0x100))) (bits_below 7 (bit_xor r (x * 0x100)))

pub check_below : (xs : List ℕ) → check_of xs < 65536
unfolding check_of
check_below xs = from-below xs 0xFFFF (lit< tt)
