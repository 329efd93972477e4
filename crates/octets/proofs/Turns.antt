-- A turn of each loop, and what the loop has done at its end.
use mathlib.Core.Path.{◌≡◌, refl, sym, ap, ap₂, ◌∙◌}
use Prim.Native.Nat.{ℕ, zero, suc, ◌+◌, ◌-◌, ◌*◌, ◌/◌, ◌%◌, ◌^◌, ◌≤◌, ◌<◌, min}
use native.Mathlib.Nat.{zero-lt-suc, zero-add, le_of_eq, add-sub_of_le, le_antisymm, div-one, div-div-eq-div-mul, pow-succ', pow-suc, pow-le-pow_right, mul-mod_right, mod-eq_of_lt}
use native.Mathlib.Omega.{arith}
use mathlib.Core.List.{List, [], ◌∷◌, ◌++◌, append_assoc, append-nil}
use lib.ListN.{length, get_or, take, drop, set, length-drop, length-take, drop_of_length-le}
use lib.Seq.{length-take-le, take_all, take-suc, take-length, drop-drop, set_at}
use lib.Pow.{pow-add}
use borrow.Rule.Slice.PartMut.{put_mid}
use Rattle.std.specs.List.{fold}
use Rattle.std.proofs.lemmas.List.{take_min}
use Rattle.rules.specs.Octets.{be, num}
use Rattle.rules.specs.Areas.{laid}
use Rattle.rules.proofs.Octets.{Octets, octets_each, num-below}

-- ---- copy

-- As many octets as both lists have, of which the destination then has the source's.
pub copied_front : (d s new : List ℕ) (n : ℕ) → n ≡ min (length d) (length s) → new ≡ take n s → new ++ drop n d ≡ laid d 0 (take (length d) s)
unfolding laid
copied_front d s new n h e =
    let q : take n s ≡ take (length d) s = rw h (take_min (length d) s) in
    let l : length (take (length d) s) ≡ n = length-take (length d) s ∙ sym h in
    rw (e, q, l, zero-add n) refl

-- ---- number: the total is of the octets so far

carried : (n x : ℕ) → x < 256 → n % 0x10000000000000000 % 0x100000000000000 * 256 + x ≡ (n * 256 + x) % 0x10000000000000000
carried n x h = omega arith

folded_on : (s : List ℕ) (n v : ℕ) → Octets s → v ≡ n % 2 ^ 64
    → fold (λ (t x : ℕ). t % 0x100000000000000 * 256 + x) v s ≡ (n * 256 ^ length s + num s) % 2 ^ 64
unfolding num
folded_on [] n v o e = e ∙ ap (λ (k : ℕ). k % 2 ^ 64) (omega arith)
folded_on (x ∷ s) n v o e =
    folded_on s (n * 256 + x) (v % 0x100000000000000 * 256 + x) o.1
    (ap (λ (t : ℕ). t % 0x100000000000000 * 256 + x) e ∙ carried n x o.0)
    ∙ ap (λ (k : ℕ). k % 2 ^ 64) (regroup n x (256 ^ length s) (num s) ∙ ap (λ (p : ℕ). n * p + (x * 256 ^ length s + num s)) (sym (pow-suc 256 (length s))))
  where
    regroup : (n x p m : ℕ) → (n * 256 + x) * p + m ≡ n * (p * 256) + (x * p + m)
    regroup n x p m = omega arith

pub folded : (s : List ℕ) (v : ℕ) → ((i : ℕ) → get_or s i 0 < 256) → v ≡ fold (λ (t x : ℕ). t % 0x100000000000000 * 256 + x) 0 s → v ≡ num s % 2 ^ 64
folded s v o e =
    let z : 0 * 256 ^ length s + num s ≡ num s = omega arith in
    e ∙ folded_on s 0 0 (octets_each s o) refl ∙ ap (λ (k : ℕ). k % 2 ^ 64) z

-- ---- spell: from the last octet on

be-more : (n v : ℕ) → be (suc n) v ≡ be n (v / 256) ++ v % 256 ∷ []
unfolding be
be-more zero v = ap (λ (x : ℕ). x % 256 ∷ []) (div-one v)
be-more (suc n) v =
    ap₂ (λ (x : ℕ) (xs : List ℕ). x % 256 ∷ xs)
    (ap (λ (p : ℕ). v / p) (pow-succ' 256 n) ∙ sym (div-div-eq-div-mul v 256 (256 ^ n))) (be-more n v)

-- Of n octets the first i are not written yet; v is what they are to spell.
pub record Spelled (d : List ℕ) (x : ℕ) (dst : List ℕ) (v i : ℕ) : Type 0 where
  pub done : List ℕ
  pub whole : be (length d) x ≡ be i v ++ done
  pub here : dst ≡ take i d ++ done
  pub below : i ≤ length d

pub spell_none : (d : List ℕ) (x : ℕ) → Spelled d x d x (length d)
spell_none d x = record {
  done = [];
  whole = sym (append-nil (be (length d) x));
  here = sym
      (append-nil (take (length d) d) ∙ take-length d);
  below = omega arith;
}

one_less : (d : List ℕ) (x : ℕ) (dst : List ℕ) (v i : ℕ) → Spelled d x dst v (suc i) → Spelled d x (set dst i (v % 256)) (v / 256) i
one_less d x dst v i w =
    let h : i < length d = w.below in
    record {
      done = v % 256 ∷ w.done;
      whole = w.whole ∙ ap (λ (l : List ℕ). l ++ w.done) (be-more i v) ∙ append_assoc (be i (v / 256)) (v % 256 ∷ []) w.done;
      here =
          ap (λ (l : List ℕ). set l i (v % 256)) (w.here ∙ ap (λ (l : List ℕ). l ++ w.done) (take-suc d i 0 h) ∙ append_assoc (take i d) (get_or d i 0 ∷ [])
          w.done)
          ∙ set_at (take i d) (get_or d i 0) w.done (v % 256) i (length-take-le i d (omega arith));
      below = omega arith;
    }

pub spell_turn : (d : List ℕ) (x : ℕ) (dst : List ℕ) (v i : ℕ) → 0 < i → Spelled d x dst v i → Spelled d x (set dst (i - 1) (v % 256)) (v / 256) (i - 1)
spell_turn d x dst v zero h w = absurd (omega arith)
spell_turn d x dst v (suc i) h w = let e : suc i - 1 ≡ i = omega arith in rw e (one_less d x dst v i w)

pub spell_all : (d : List ℕ) (x : ℕ) (dst : List ℕ) (v i : ℕ) → i ≤ 0 → Spelled d x dst v i → dst ≡ be (length d) x
unfolding be
spell_all d x dst v zero h w = w.here ∙ sym w.whole
spell_all d x dst v (suc i) h w = absurd (omega arith)

-- ---- modulus

pub none_left : (n : ℕ) → 8 ≤ n → 0 ≡ 256 ^ n % 2 ^ 64
none_left n h =
    sym (ap (λ (p : ℕ). p % 2 ^ 64) (ap (λ (k : ℕ). 256 ^ k) (sym (add-sub_of_le h)) ∙ pow-add 256 8 (n - 8)) ∙ mul-mod_right (2 ^ 64) (256 ^ (n - 8)))

-- A one in front of n octets.
pub one_moved : (n : ℕ) → 1 * 2 ^ (8 * n) ≡ 256 ^ n
one_moved zero = refl
one_moved (suc n) =
    let longer : 8 * suc n ≡ 8 * n + 8 = omega arith in
    let here : 1 * (2 ^ (8 * n) * 256) ≡ 1 * 2 ^ (8 * n) * 256 = omega arith in
    rw (longer, pow-add 2 (8 * n) 8) (here ∙ ap (λ (p : ℕ). p * 256) (one_moved n) ∙ sym (pow-suc 256 n))

pub small : (i k : ℕ) → i ≤ k → 256 ^ i ≤ 256 ^ k
small i k h = pow-le-pow_right (zero-lt-suc 255) h

pub modulus_all : (n m i : ℕ) → n < 8 → i ≤ n → n ≤ i → m ≡ 256 ^ i → m ≡ 256 ^ n % 2 ^ 64
modulus_all n m i h a b e =
    let s : 256 ^ n ≤ 256 ^ 7 = small n 7 (omega arith) in
    e ∙ ap (λ (k : ℕ). 256 ^ k) (le_antisymm a b) ∙ sym (mod-eq_of_lt (omega arith))

-- ---- exact: eight octets fit

pub exact_number : (s : List ℕ) (v : ℕ) → length s ≤ 8 → ((i : ℕ) → get_or s i 0 < 256) → v ≡ num s % 2 ^ 64 → v ≡ num s
exact_number s v h o e =
    let b : num s < 256 ^ length s = num-below s (octets_each s o) in
    let k : 256 ^ length s ≤ 256 ^ 8 = small (length s) 8 h in
    e ∙ mod-eq_of_lt (omega arith)

-- ---- a part that is lent whole: what it then holds is laid into the area

pub lent : (area : List ℕ) (from n : ℕ) (xs : List ℕ) → length xs ≡ n → put_mid from (from + n - from) area xs ≡ laid area from xs
unfolding laid
lent area from n xs e =
    let k : from + n - from ≡ length xs = omega arith in
    ap (λ (i : ℕ). take from area ++ (xs ++ drop i (drop from area))) k ∙ ap (λ (l : List ℕ). take from area ++ (xs ++ l)) (drop-drop (length xs) from area)
    ∙ sym (append_assoc (take from area) xs (drop (from + length xs) area))

-- The part's length, and a source as long as the part.
pub part-long : (area : List ℕ) (from n : ℕ) → from + n ≤ length area → length (take (from + n - from) (drop from area)) ≡ n
part-long area from n h =
    let k : from + n - from ≡ n = omega arith in
    rw k (length-take-le n (drop from area) (omega (arith, length-drop from area)))

pub copied-whole : (d s : List ℕ) → length d ≡ length s → laid d 0 (take (length d) s) ≡ s
unfolding laid
copied-whole d s e =
    let t : take (length d) s ≡ s = take_all (length d) s (omega arith) in
    rw (t, zero-add, drop_of_length-le d (le_of_eq e), append-nil s)
