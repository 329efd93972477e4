-- Octets that were made shorter by a power of the generator have the check that they had.
use mathlib.Core.Path.{◌≡◌, refl, sym, ap, ap₂, ◌∙◌, subst}
use mathlib.Core.List.{List, [], ◌∷◌, ◌++◌}
use Prim.Native.Nat.{ℕ, zero, suc, ◌+◌, ◌-◌, ◌*◌, ◌≤◌, ◌<◌}
use native.Mathlib.Nat.{not-suc-le-zero, le_of_suc-le-suc}
use native.Mathlib.Omega.{arith}
use lib.ListN.{length, get_or, take, drop, replicate, length-append, length-drop, length-replicate, take-append-drop}
use lib.Seq.{drop-cons, drop-append-le, drop-drop}
use lib.Bits.{bit_xor, xor_lt, xor_shifted, xor_zero_l, xor_zero_r, xor_comm, xor_self}
use lib.Dec.{lit<}
use borrow.Author.Tests.{le-leb, lt-leb}
use Rattle.rules.specs.Octets.{check_bit, check_bits, check_from, check_of}
use Rattle.rules.proofs.Tests.{split}
use Rattle.rules.proofs.Octets.{Octets, octets_take, octets_drop, bits_below}
use Rattle.fecf.specs.Folds.{next, carried, plus, later, closed, preset, shorter, shortest, check_by}
use Rattle.fecf.specs.Remainders.{remainders, from_by}
use Rattle.fecf.proofs.Xor.{xor_assoc, xor_four, xor-between, xor_times}
use Rattle.fecf.proofs.Linear.{shifts}
use Rattle.fecf.proofs.Agreement.{low, by-table}
use Rattle.fecf.proofs.Powers.{Folds, power, shifted-below, shifts_add, shifts_swap, shifts_three}

-- ---- octets

octet_at : (xs : List ℕ) → Octets xs → (i : ℕ) → get_or xs i 0 < 256
octet_at [] o i = lit< tt
octet_at (x ∷ xs) o zero = o.0
octet_at (x ∷ xs) o (suc i) = octet_at xs o.1 i

octets_join : (xs ys : List ℕ) → Octets xs → Octets ys → Octets (xs ++ ys)
octets_join [] ys o q = q
octets_join (x ∷ xs) ys o q = (o.0, octets_join xs ys o.1 q)

octets_plus : (xs ys : List ℕ) → Octets xs → Octets ys → Octets (plus xs ys)
unfolding plus
octets_plus [] ys o q = q
octets_plus (x ∷ xs) [] o q = tt
octets_plus (x ∷ xs) (y ∷ ys) o q = (xor_lt 8 y x q.0 o.0, octets_plus xs ys o.1 q.1)

pub length-plus : (xs ys : List ℕ) → length (plus xs ys) ≡ length ys
unfolding plus
length-plus [] ys = refl
length-plus (x ∷ xs) [] = refl
length-plus (x ∷ xs) (y ∷ ys) = ap suc (length-plus xs ys)

-- Behind the octets to which others were added nothing changed.
pub drop-plus : (n : ℕ) (xs ys : List ℕ) → length xs ≤ n → drop n (plus xs ys) ≡ drop n ys
unfolding plus
drop-plus n [] ys h = refl
drop-plus zero (x ∷ xs) ys h = absurd (not-suc-le-zero h)
drop-plus (suc n) (x ∷ xs) [] h = refl
drop-plus (suc n) (x ∷ xs) (y ∷ ys) h = drop-plus n xs ys (le_of_suc-le-suc h)

-- ---- the register after sums of octets

upper : (x : ℕ) → x < 256 → x * 256 < 65536
upper x h = omega arith

-- What an octet makes of a register of zeros.
alone : ℕ → ℕ
alone x = check_bits 8 (x * 256)

alone-below : (x : ℕ) → alone x < 65536
unfolding alone
alone-below x = bits_below 7 (x * 256)

alone-sum : (x y : ℕ) → x < 256 → y < 256 → alone (bit_xor x y) ≡ bit_xor (alone x) (alone y)
unfolding alone
alone-sum x y hx hy = ap (check_bits 8) (xor_times 8 x y) ∙ shifts 8 (x * 256) (y * 256) (upper x hx) (upper y hy)

step-below : (r x : ℕ) → check_bits 8 (bit_xor r (x * 256)) < 65536
step-below r x = bits_below 7 (bit_xor r (x * 256))

from-below : (xs : List ℕ) (r : ℕ) → r < 65536 → check_from r xs < 65536
unfolding check_from
from-below [] r h = h
from-below (x ∷ xs) r h = from-below xs _ (step-below r x)

from-joined : (xs ys : List ℕ) (r : ℕ) → check_from r (xs ++ ys) ≡ check_from (check_from r xs) ys
unfolding check_from
from-joined [] ys r = refl
from-joined (x ∷ xs) ys r = from-joined xs ys _

-- Of a sum of two registers, the second only is shifted on.
from-sum : (xs : List ℕ) (r s : ℕ) → Octets xs → r < 65536 → s < 65536 → check_from (bit_xor r s) xs ≡ bit_xor (check_from r xs) (check_bits (8 * length xs) s)
unfolding check_from check_bits
from-sum [] r s o hr hs = refl
from-sum (x ∷ xs) r s o hr hs =
    let h = x * 256 in
    let swapped : bit_xor (bit_xor r s) h ≡ bit_xor (bit_xor r h) s = xor_assoc r s h ∙ ap (bit_xor r) (xor_comm s h) ∙ sym (xor_assoc r h s) in
    let on : 8 + 8 * length xs ≡ 8 * suc (length xs) = omega arith in
    ap (λ (n : ℕ). check_from n xs) (ap (check_bits 8) swapped ∙ shifts 8 (bit_xor r h) s (xor_lt 16 r h hr (upper x o.0)) hs)
    ∙ from-sum xs (check_bits 8 (bit_xor r h)) (check_bits 8 s) o.1 (step-below r x) (shifted-below 8 s hs)
    ∙ ap (bit_xor (check_from (check_bits 8 (bit_xor r h)) xs)) (sym (shifts_add 8 (8 * length xs) s) ∙ ap (λ (n : ℕ). check_bits n s) on)

-- Octets added to the first ones of others: the sum of what the others make and of what these make, shifted over the others that are left.
plus-sum : (xs ys : List ℕ) (r s : ℕ) → Octets xs → Octets ys → r < 65536 → s < 65536 → length xs ≤ length ys
    → check_from (bit_xor r s) (plus xs ys) ≡ bit_xor (check_from r ys) (check_bits (8 * (length ys - length xs)) (check_from s xs))
unfolding check_from plus
plus-sum [] ys r s o q hr hs h =
    let all : length ys ≡ length ys - 0 = omega arith in
    from-sum ys r s q hr hs ∙ ap (λ (n : ℕ). bit_xor (check_from r ys) (check_bits (8 * n) s)) all
plus-sum (x ∷ xs) [] r s o q hr hs h = absurd (not-suc-le-zero h)
plus-sum (x ∷ xs) (y ∷ ys) r s o q hr hs h =
    let apart : bit_xor (bit_xor r s) (bit_xor y x * 256) ≡ bit_xor (bit_xor r (y * 256)) (bit_xor s (x * 256)) =
    ap (bit_xor (bit_xor r s)) (xor_times 8 y x) ∙ xor_four r s (y * 256) (x * 256) in
    let left : length ys - length xs ≡ suc (length ys) - suc (length xs) = omega arith in
    ap (λ (n : ℕ). check_from n (plus xs ys))
    (ap (check_bits 8) apart
    ∙ shifts 8 (bit_xor r (y * 256)) (bit_xor s (x * 256)) (xor_lt 16 r (y * 256) hr (upper y q.0)) (xor_lt 16 s (x * 256) hs (upper x o.0)))
    ∙ plus-sum xs ys (check_bits 8 (bit_xor r (y * 256))) (check_bits 8 (bit_xor s (x * 256))) o.1 q.1 (step-below r y) (step-below s x) (le_of_suc-le-suc h)
    ∙ ap (λ (n : ℕ). bit_xor (check_from r (y ∷ ys)) (check_bits (8 * n) (check_from s (x ∷ xs)))) left

none_below : 0 < 65536
none_below = lit< tt

plus_check : (xs ys : List ℕ) → Octets xs → Octets ys → length xs ≤ length ys
    → check_from 0 (plus xs ys) ≡ bit_xor (check_from 0 ys) (check_bits (8 * (length ys - length xs)) (check_from 0 xs))
plus_check xs ys o q h = plus-sum xs ys 0 0 o q none_below none_below h

-- ---- the long register

-- What the octets of a long register from d on add, d octets behind it.
from_on : ℕ → List ℕ → ℕ
from_on d long = check_bits (8 * d) (check_from 0 (drop d long))

from-on-below : (d : ℕ) (long : List ℕ) → from_on d long < 65536
unfolding from_on
from-on-below d long = shifted-below (8 * d) _ (from-below (drop d long) 0 none_below)

-- What it adds in all, over 16u octets of zeros.
value : ℕ → List ℕ → ℕ
value u long = bit_xor (bit_xor (from_on (12 * u) long) (from_on (5 * u) long)) (from_on 0 long)

-- The first octet goes out, and another comes in.
one_on : (d v : ℕ) (long : List ℕ) → Octets long → v < 256 → d < length long
    → from_on d (drop 1 long ++ v ∷ [])
    ≡ bit_xor (bit_xor (check_bits 8 (from_on d long)) (check_bits (8 * length long) (alone (get_or long d 0)))) (check_bits (8 * d) (alone v))
unfolding from_on check_from check_bits alone
one_on d v long o hv h =
    let rest = drop (suc d) long in
    let p = check_from 0 rest in
    let hp : p < 65536 = from-below rest 0 none_below in
    let x = get_or long d 0 in
    let room : d ≤ length (drop 1 long) = omega (arith, length-drop 1 long) in
    let past : 1 + d ≡ suc d = omega arith in
    let parts : drop d (drop 1 long ++ v ∷ []) ≡ rest ++ v ∷ [] =
    drop-append-le d (drop 1 long) (v ∷ []) room ∙ ap (λ (l : List ℕ). l ++ v ∷ []) (drop-drop d 1 long ∙ ap (λ (n : ℕ). drop n long) past) in
    let new : check_from 0 (drop d (drop 1 long ++ v ∷ [])) ≡ bit_xor (check_bits 8 p) (alone v) =
    ap (check_from 0) parts ∙ from-joined rest (v ∷ []) 0 ∙ shifts 8 p (v * 256) hp (upper v hv) in
    let old : check_from 0 (drop d long) ≡ bit_xor p (check_bits (8 * length rest) (alone x)) =
    ap (check_from 0) (drop-cons long d 0 h)
    ∙ ap (λ (n : ℕ). check_from n rest) (ap (check_bits 8) (xor_zero_l (x * 256)) ∙ sym (xor_zero_l (alone x)))
    ∙ from-sum rest 0 (alone x) (octets_drop (suc d) long o) none_below (alone-below x) in
    let far : 8 * length rest + 8 * d + 8 ≡ 8 * length long = omega (arith, length-drop (suc d) long) in
    let e = check_bits (8 * length long) (alone x) in
    let g = check_bits 8 (check_bits (8 * d) p) in
    let z = check_bits (8 * length rest) (alone x) in
    let hz : z < 65536 = shifted-below (8 * length rest) (alone x) (alone-below x) in
    let gone : check_bits 8 (check_bits (8 * d) (check_from 0 (drop d long))) ≡ bit_xor g e =
    ap (λ (n : ℕ). check_bits 8 (check_bits (8 * d) n)) old
    ∙ ap (check_bits 8) (shifts (8 * d) p z hp hz)
    ∙ shifts 8 (check_bits (8 * d) p) (check_bits (8 * d) z) (shifted-below (8 * d) p hp) (shifted-below (8 * d) z hz)
    ∙ ap (bit_xor g)
    (ap (check_bits 8) (sym (shifts_add (8 * length rest) (8 * d) (alone x))) ∙ sym (shifts_add (8 * length rest + 8 * d) 8 (alone x))
    ∙ ap (λ (n : ℕ). check_bits n (alone x)) far) in
    ap (check_bits (8 * d)) new
    ∙ shifts (8 * d) (check_bits 8 p) (alone v) (shifted-below 8 p hp) (alone-below v)
    ∙ ap (λ (n : ℕ). bit_xor n (check_bits (8 * d) (alone v)))
    (shifts_swap (8 * d) 8 p
    ∙ sym (ap (λ (n : ℕ). bit_xor n e) gone ∙ xor_assoc g e e ∙ ap (bit_xor g) (xor_self e) ∙ xor_zero_r g))

-- Three sums added are the sum of what stands first in them and of what stands second.
three : (a b c d e f : ℕ) → bit_xor (bit_xor (bit_xor a b) (bit_xor c d)) (bit_xor e f) ≡ bit_xor (bit_xor (bit_xor a c) e) (bit_xor (bit_xor b d) f)
three a b c d e f = ap (λ (n : ℕ). bit_xor n (bit_xor e f)) (xor_four a b c d) ∙ xor_four (bit_xor a c) (bit_xor b d) e f

-- The octet that comes in, where the input's next one is x.
next-below : (u : ℕ) (long : List ℕ) (x : ℕ) → Octets long → x < 256 → next u long x < 256
unfolding next
next-below u long x o h =
    let at = octet_at long o in
    let a = get_or long (12 * u) 0 in
    let b = get_or long (5 * u) 0 in
    xor_lt 8 (bit_xor (bit_xor x a) b) (get_or long 0 0) (xor_lt 8 (bit_xor x a) b (xor_lt 8 x a h (at (12 * u))) (at (5 * u))) (at 0)

next-alone : (u : ℕ) (long : List ℕ) (x : ℕ) → Octets long → x < 256
    → alone (next u long x) ≡ bit_xor (alone x) (bit_xor (bit_xor (alone (get_or long (12 * u) 0)) (alone (get_or long (5 * u) 0))) (alone (get_or long 0 0)))
unfolding next
next-alone u long x o h =
    let a = get_or long (12 * u) 0 in
    let b = get_or long (5 * u) 0 in
    let c = get_or long 0 0 in
    let ha : a < 256 = octet_at long o (12 * u) in
    let hb : b < 256 = octet_at long o (5 * u) in
    let hc : c < 256 = octet_at long o 0 in
    let last : bit_xor (bit_xor (bit_xor x a) b) c ≡ bit_xor x (bit_xor (bit_xor a b) c) =
    ap (λ (n : ℕ). bit_xor n c) (xor_assoc x a b) ∙ xor_assoc x (bit_xor a b) c in
    ap alone last
    ∙ alone-sum x (bit_xor (bit_xor a b) c) h (xor_lt 8 (bit_xor a b) c (xor_lt 8 a b ha hb) hc)
    ∙ ap (bit_xor (alone x))
    (alone-sum (bit_xor a b) c (xor_lt 8 a b ha hb) hc ∙ ap (λ (n : ℕ). bit_xor n (alone c)) (alone-sum a b ha hb))

next-value : (u : ℕ) → Folds (8 * u) → 0 < u → (long : List ℕ) (x : ℕ) → Octets long → length long ≡ 16 * u → x < 256
    → value u (drop 1 long ++ next u long x ∷ []) ≡ bit_xor (check_bits 8 (value u long)) (check_bits (16 * (8 * u)) (alone x))
unfolding value check_bits
next-value u fold pos long x o len hx =
    let v = next u long x in
    let hv : v < 256 = next-below u long x o hx in
    let m = 8 * length long in
    let a = alone (get_or long (12 * u) 0) in
    let b = alone (get_or long (5 * u) 0) in
    let c = alone (get_or long 0 0) in
    let y = bit_xor (bit_xor a b) c in
    let ha : a < 65536 = alone-below (get_or long (12 * u) 0) in
    let hb : b < 65536 = alone-below (get_or long (5 * u) 0) in
    let hc : c < 65536 = alone-below (get_or long 0 0) in
    let hy : y < 65536 = xor_lt 16 (bit_xor a b) c (xor_lt 16 a b ha hb) hc in
    let far : m ≡ 16 * (8 * u) = omega (arith, len) in
    let twelve : 8 * (12 * u) ≡ 12 * (8 * u) = omega arith in
    let five : 8 * (5 * u) ≡ 5 * (8 * u) = omega arith in
    let p = from_on (12 * u) long in
    let q = from_on (5 * u) long in
    let s = from_on 0 long in
    let d = check_bits (8 * (12 * u)) (alone v) in
    let e = check_bits (8 * (5 * u)) (alone v) in
    let in_all : bit_xor (bit_xor (check_bits (8 * (12 * u)) (alone v)) (check_bits (8 * (5 * u)) (alone v))) (alone v) ≡ check_bits m (bit_xor (alone x) y) =
    ap₂ (λ (j k : ℕ). bit_xor (bit_xor (check_bits j (alone v)) (check_bits k (alone v))) (alone v)) twelve five
    ∙ sym (fold (alone v) (alone-below v))
    ∙ ap₂ check_bits (sym far) (next-alone u long x o hx) in
    ap₂ bit_xor
    (ap₂ bit_xor (one_on (12 * u) v long o hv (omega (arith, len))) (one_on (5 * u) v long o hv (omega (arith, len))))
    (one_on 0 v long o hv (omega (arith, len)))
    ∙ three (bit_xor (check_bits 8 p) (check_bits m a)) d (bit_xor (check_bits 8 q) (check_bits m b)) e (bit_xor (check_bits 8 s) (check_bits m c)) (alone v)
    ∙ ap₂ bit_xor
    (three (check_bits 8 p) (check_bits m a) (check_bits 8 q) (check_bits m b) (check_bits 8 s) (check_bits m c)
    ∙ ap₂ bit_xor (sym (shifts_three 8 p q s (from-on-below (12 * u) long) (from-on-below (5 * u) long) (from-on-below 0 long)))
    (sym (shifts_three m a b c ha hb hc)))
    (in_all ∙ shifts m (alone x) y (alone-below x) hy ∙ xor_comm (check_bits m (alone x)) (check_bits m y))
    ∙ xor-between (check_bits 8 (bit_xor (bit_xor p q) s)) (check_bits m y) (check_bits m (alone x))
    ∙ ap (λ (n : ℕ). bit_xor (check_bits 8 (bit_xor (bit_xor p q) s)) (check_bits n (alone x))) far

-- A long register stands for a register: over 16u octets of zeros both come to the same.
record Stands (u : ℕ) (long : List ℕ) (r : ℕ) : Type 0 where
  octets : Octets long
  size : length long ≡ 16 * u
  below : r < 65536
  same : value u long ≡ check_bits (16 * (8 * u)) r

next_stands : (u : ℕ) → Folds (8 * u) → 0 < u → (long : List ℕ) (r x : ℕ) → x < 256 → Stands u long r
    → Stands u (drop 1 long ++ next u long x ∷ []) (check_bits 8 (bit_xor r (x * 256)))
unfolding alone
next_stands u fold pos long r x hx s =
    let m = 16 * (8 * u) in
    record {
      octets = octets_join (drop 1 long) _ (octets_drop 1 long s.octets) (next-below u long x s.octets hx, tt);
      size = omega (arith, length-append (drop 1 long) (next u long x ∷ []), length-drop 1 long, s.size);
      below = step-below r x;
      same =
          next-value u fold pos long x s.octets s.size hx
          ∙ ap (λ (n : ℕ). bit_xor n (check_bits m (alone x))) (ap (check_bits 8) s.same ∙ shifts_swap 8 m r)
          ∙ sym (shifts m (check_bits 8 r) (alone x) (shifted-below 8 r s.below) (alone-below x))
          ∙ ap (check_bits m) (sym (shifts 8 r (x * 256) s.below (upper x hx)));
    }

carried_stands : (u : ℕ) → Folds (8 * u) → 0 < u → (xs long : List ℕ) (r : ℕ) → Octets xs → Stands u long r → Stands u (carried u long xs) (check_from r xs)
unfolding carried check_from
carried_stands u fold pos [] long r o s = s
carried_stands u fold pos (x ∷ xs) long r o s = carried_stands u fold pos xs _ _ o.1 (next_stands u fold pos long r x o.0 s)

-- ---- the first one

no_shift : (k : ℕ) → check_bits k 0 ≡ 0
unfolding check_bits check_bit
no_shift zero = refl
no_shift (suc k) = no_shift k

octets_none : (n : ℕ) → Octets (replicate n 0)
octets_none zero = tt
octets_none (suc n) = (lit< tt, octets_none n)

over_none : (n r : ℕ) → check_from r (replicate n 0) ≡ check_bits (8 * n) r
unfolding check_from check_bits
over_none zero r = refl
over_none (suc n) r =
    let on : 8 + 8 * n ≡ 8 * suc n = omega arith in
    ap (λ (m : ℕ). check_from (check_bits 8 m) (replicate n 0)) (xor_zero_r r)
    ∙ over_none n (check_bits 8 r)
    ∙ sym (shifts_add 8 (8 * n) r)
    ∙ ap (λ (m : ℕ). check_bits m r) on

none_left : (n e : ℕ) → check_from 0 (drop e (replicate n 0)) ≡ 0
unfolding check_from
none_left n zero = over_none n 0 ∙ no_shift (8 * n)
none_left zero (suc e) = refl
none_left (suc n) (suc e) = none_left n e

behind : (d n f : ℕ) → from_on (suc (suc d)) (f ∷ f ∷ replicate n 0) ≡ 0
unfolding from_on
behind d n f = ap (check_bits (8 * suc (suc d))) (none_left n d) ∙ no_shift (8 * suc (suc d))

preset_stands : (u f : ℕ) → 0 < u → f < 256 → Stands u (preset u f) (f * 257)
unfolding preset value from_on check_from check_bits
preset_stands u f pos hf =
    let n = 16 * u - 2 in
    let h = f * 256 in
    let hh : h < 65536 = upper f hf in
    let both : bit_xor h f ≡ f * 257 = (let e : f * 256 + f ≡ f * 257 = omega arith in xor_shifted f 8 f hf ∙ e) in
    let moved : check_bits 8 f ≡ h = low 8 f hh in
    let two : check_bits 8 (bit_xor (check_bits 8 h) h) ≡ check_bits 16 (f * 257) =
    ap (λ (m : ℕ). check_bits 8 (bit_xor (check_bits 8 h) m)) (sym moved)
    ∙ ap (check_bits 8) (sym (shifts 8 h f hh (omega arith)))
    ∙ sym (shifts_add 8 8 (bit_xor h f))
    ∙ ap (check_bits 16) both in
    let far : 16 + 8 * n ≡ 16 * (8 * u) = omega arith in
    let whole : check_from 0 (f ∷ f ∷ replicate n 0) ≡ check_bits (16 * (8 * u)) (f * 257) =
    ap (λ (m : ℕ). check_from (check_bits 8 (bit_xor (check_bits 8 m) h)) (replicate n 0)) (xor_zero_l h)
    ∙ ap (λ (m : ℕ). check_from m (replicate n 0)) two
    ∙ over_none n (check_bits 16 (f * 257))
    ∙ sym (shifts_add 16 (8 * n) (f * 257))
    ∙ ap (λ (m : ℕ). check_bits m (f * 257)) far in
    let apart : (d : ℕ) → 2 ≤ d → from_on d (f ∷ f ∷ replicate n 0) ≡ 0 =
    λ d hd. (let e : suc (suc (d - 2)) ≡ d = omega arith in subst (λ (m : ℕ). from_on m (f ∷ f ∷ replicate n 0) ≡ 0) e (behind (d - 2) n f)) in
    record {
      octets = (hf, (hf, octets_none n));
      size = omega (arith, length-replicate {A = ℕ} n 0);
      below = omega arith;
      same =
          ap₂ (λ (j k : ℕ). bit_xor (bit_xor j k) (from_on 0 (f ∷ f ∷ replicate n 0))) (apart (12 * u) (omega arith)) (apart (5 * u) (omega arith))
          ∙ xor_zero_l (from_on 0 (f ∷ f ∷ replicate n 0))
          ∙ whole;
    }

-- ---- the last octets

length-later : (d : ℕ) (xs : List ℕ) → length (later d xs) ≡ length xs
unfolding later
length-later d xs = length-plus (drop d xs) xs

octets_later : (d : ℕ) (xs : List ℕ) → Octets xs → Octets (later d xs)
unfolding later
octets_later d xs o = octets_plus (drop d xs) xs (octets_drop d xs o) o

drop-later : (n d : ℕ) (xs : List ℕ) → length xs - d ≤ n → drop n (later d xs) ≡ drop n xs
unfolding later
drop-later n d xs h = drop-plus n (drop d xs) xs (omega (arith, length-drop d xs))

later_check : (d : ℕ) (xs : List ℕ) → Octets xs → d ≤ length xs → check_from 0 (later d xs) ≡ bit_xor (check_from 0 xs) (from_on d xs)
unfolding later from_on
later_check d xs o h =
    let short : length (drop d xs) ≤ length xs = omega (arith, length-drop d xs) in
    let left : length xs - length (drop d xs) ≡ d = omega (arith, length-drop d xs) in
    plus_check (drop d xs) xs (octets_drop d xs o) o short ∙ ap (λ (n : ℕ). bit_xor (check_from 0 xs) (check_bits (8 * n) (check_from 0 (drop d xs)))) left

closed_check : (u : ℕ) (long : List ℕ) → Octets long → length long ≡ 16 * u → check_from 0 (closed u long) ≡ value u long
unfolding closed value from_on check_bits
closed_check u long o len =
    let more = later (12 * u) long in
    let c = check_from 0 long in
    let p = from_on (12 * u) long in
    let q = from_on (5 * u) long in
    let kept : drop (5 * u) more ≡ drop (5 * u) long = drop-later (5 * u) (12 * u) long (omega (arith, len)) in
    later_check (5 * u) more (octets_later (12 * u) long o) (omega (arith, len, length-later (12 * u) long))
    ∙ ap₂ bit_xor (later_check (12 * u) long o (omega (arith, len))) (ap (λ (l : List ℕ). check_bits (8 * (5 * u)) (check_from 0 l)) kept)
    ∙ xor_assoc c p q
    ∙ xor_comm c (bit_xor p q)

-- ---- what is left has the check

pub length-closed : (u : ℕ) (long : List ℕ) → length (closed u long) ≡ length long
unfolding closed
length-closed u long = length-later (5 * u) (later (12 * u) long) ∙ length-later (12 * u) long

octets_closed : (u : ℕ) (long : List ℕ) → Octets long → Octets (closed u long)
unfolding closed
octets_closed u long o = octets_later (5 * u) _ (octets_later (12 * u) long o)

-- What octets are made to, and that it has their check.
record Shorter (u f : ℕ) (xs : List ℕ) : Type 0 where
  octets : Octets (shorter u (preset u f) xs)
  size : length (shorter u (preset u f) xs) ≡ 16 * u
  same : check_from 0 (shorter u (preset u f) xs) ≡ check_from (f * 257) xs

shorter-same : (u f : ℕ) → Folds (8 * u) → 0 < u → f < 256 → (xs : List ℕ) → Octets xs → 16 * u ≤ length xs → Shorter u f xs
unfolding shorter check_bits
shorter-same u f fold pos hf xs o h =
    let n = length xs - 16 * u in
    let ys = drop n xs in
    let front = take n xs in
    let r = check_from (f * 257) front in
    let long = carried u (preset u f) front in
    let s : Stands u long r = carried_stands u fold pos front (preset u f) (f * 257) (octets_take n xs o) (preset_stands u f pos hf) in
    let oy : Octets ys = octets_drop n xs o in
    let size : length ys ≡ 16 * u = omega (arith, length-drop n xs) in
    let as_long : length (closed u long) ≡ 16 * u = length-closed u long ∙ s.size in
    let none : length (closed u long) - length ys ≡ 0 = omega (arith, size, as_long) in
    let far : 16 * (8 * u) ≡ 8 * length ys = omega (arith, size) in
    record {
      octets = octets_plus ys (closed u long) oy (octets_closed u long s.octets);
      size = length-plus ys (closed u long) ∙ as_long;
      same =
          plus_check ys (closed u long) oy (octets_closed u long s.octets) (omega (arith, size, as_long))
          ∙ ap₂ bit_xor
          (closed_check u long s.octets s.size ∙ s.same ∙ ap (λ (k : ℕ). check_bits k r) far)
          (ap (λ (k : ℕ). check_bits (8 * k) (check_from 0 ys)) none)
          ∙ xor_comm (check_bits (8 * length ys) r) (check_from 0 ys)
          ∙ sym (from-sum ys 0 r oy none_below s.below)
          ∙ ap (λ (k : ℕ). check_from k ys) (xor_zero_l r)
          ∙ sym (from-joined front ys (f * 257))
          ∙ ap (check_from (f * 257)) (take-append-drop n xs);
    }

-- ---- the table over what is left

by-shortest : (t xs : List ℕ) (f : ℕ) → f < 256 → t ≡ remainders 0 256 → Octets xs → 128 ≤ length xs → from_by t 0 (shortest f xs) ≡ check_from (f * 257) xs
unfolding shortest
by-shortest t xs f hf e o h =
    let a : Shorter 8 f xs = shorter-same 8 f (power 6) (lit< tt) hf xs o h in
    let ys = shorter 8 (preset 8 f) xs in
    let b : Shorter 4 0 ys = shorter-same 4 0 (power 5) (lit< tt) (lit< tt) ys a.octets (omega (arith, a.size)) in
    let zs = shorter 4 (preset 4 0) ys in
    let c : Shorter 2 0 zs = shorter-same 2 0 (power 4) (lit< tt) (lit< tt) zs b.octets (omega (arith, b.size)) in
    by-table t e (shorter 2 (preset 2 0) zs) c.octets 0 none_below ∙ c.same ∙ b.same ∙ a.same

by_longest : (t xs : List ℕ) → t ≡ remainders 0 256 → Octets xs → 256 ≤ length xs
    → from_by t 0 (shortest 0 (shorter 16 (preset 16 0xFF) xs)) ≡ check_from 0xFFFF xs
by_longest t xs e o h =
    let a : Shorter 16 0xFF xs = shorter-same 16 0xFF (power 7) (lit< tt) (lit< tt) xs o h in
    by-shortest t (shorter 16 (preset 16 0xFF) xs) 0 (lit< tt) e a.octets (omega (arith, a.size)) ∙ a.same

-- The check by powers and by the table is the bits'.
pub check_is : (t xs : List ℕ) → t ≡ remainders 0 256 → Octets xs → check_by t xs ≡ check_of xs
unfolding check_by check_of
check_is t xs e o = split 128 (length xs) (λ h. split 257 (length xs) (long h) (middle h)) short where
  long : 128 ≤ length xs → 257 ≤ length xs → check_by t xs ≡ check_of xs
  long g h = simp (le-leb _ _ g, le-leb _ _ h) (by_longest t xs e o (omega arith))

  middle : 128 ≤ length xs → length xs < 257 → check_by t xs ≡ check_of xs
  middle g h = simp (le-leb _ _ g, lt-leb _ _ h) (by-shortest t xs 0xFF (lit< tt) e o g)

  short : length xs < 128 → check_by t xs ≡ check_of xs
  short h = simp (lt-leb _ _ h) (by-table t e xs o 0xFFFF (lit< tt))
