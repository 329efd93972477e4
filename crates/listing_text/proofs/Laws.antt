-- Octets put one after another; the digits of a number, the words and the lines that they make.
use Prim.Native.Nat.{◌^◌, ℕ, zero, suc, ◌+◌, ◌/◌, ◌%◌, ◌≤◌, ◌<◌}
use mathlib.Core.Path.{◌≡◌, refl, sym, ap, ◌∙◌}
use mathlib.Core.Bool.{Bool, true, false, cond}
use mathlib.Core.List.{List, [], ◌∷◌, ◌++◌}
use lib.ListN.{length, take, drop, set, length-append}
use lib.Seq.{set_split, append_snoc}
use lib.Dec.{lit≤, lit<}
use native.Mathlib.Omega.{arith}
use native.Mathlib.Numerals.{add-one}
use borrow.Author.Tests.{lt-ltb, le-ltb}
use Rattle.std.specs.Fmt.{decimal as printed}
use Rattle.std.proofs.lemmas.Fmt.{AppendsLastDigit, decimal_from_appends, length-decimal-le}
use Rattle.rules.specs.declared.Class.{Class}
use Rattle.rules.specs.declared.Class.TheVariants.{Idle, Counted, Read, Repeat, Refused}
use Rattle.rules.specs.declared.Answer.{Answer}
use Rattle.rules.specs.Areas.{laid}
use Rattle.rules.specs.Tests.{◌<?◌}
use Rattle.rules.proofs.Areas.{laid_nil, length-laid, laid-laid}
use Rattle.rules.specs.Listing.{text, digits, decimal, word, amount, line}
use Rattle.listing_text.specs.Puts.{Put, front}

-- Nothing put.
pub put-none : (area : List ℕ) (from : ℕ) → Put [] area from area from
put-none area from = record { octets = sym (laid_nil area from); ends = omega arith }

-- One octet stored.
pub put_one : (area : List ℕ) (at x : ℕ) → at < length area → Put (x ∷ []) area at (set area at x) (at + 1)
unfolding laid
put_one area at x h =
    record {
      octets = set_split area at x h ∙ sym (append_snoc (take at area) x (drop (suc at) area))
          ∙ ap (λ (n : ℕ). take at area ++ (x ∷ []) ++ drop n area) (sym (add-one at));
      ends = refl;
    }

pub put-length : {xs area : List ℕ} {from : ℕ} {area' : List ℕ} {end : ℕ} → Put xs area from area' end → from + length xs ≤ length area
    → length area' ≡ length area
put-length {xs} {area} {from} p room = ap length p.octets ∙ length-laid area from xs room

-- One after the other is both at once.
pub put_then : (xs ys area : List ℕ) (from : ℕ) (area₁ : List ℕ) (at : ℕ) (area₂ : List ℕ) (end : ℕ)
    → from + length xs ≤ length area → Put xs area from area₁ at → Put ys area₁ at area₂ end → Put (xs ++ ys) area from area₂ end
put_then xs ys area from area₁ at area₂ end room p q =
    record {
      octets = q.octets ∙ ap (λ (d : List ℕ). laid d at ys) p.octets ∙ ap (λ (k : ℕ). laid (laid area from xs) k ys) p.ends
          ∙ laid-laid area from xs room ys;
      ends = omega (arith, p.ends, q.ends, length-append xs ys);
    }

-- ---- digits

pub length_digits : (n v : ℕ) → length (digits n v) ≤ n
unfolding digits
length_digits zero v = omega arith
length_digits (suc n) v = by (v <? 10) (length_digits n (v / 10))
  where
    by : (t : Bool) → length (digits n (v / 10)) ≤ n → length (cond t ((48 + v) ∷ []) (digits n (v / 10) ++ (48 + v % 10) ∷ [])) ≤ suc n
    by true h = omega arith
    by false h = omega (arith, length-append (digits n (v / 10)) ((48 + v % 10) ∷ []))

-- What the standard library prints of a number of 64 bits.
pub decimal-printed : (v : ℕ) → v < 2 ^ 64 → printed v ≡ decimal v
unfolding decimal digits
decimal-printed v h = sym (decimal_from_appends digits by 20 v h (length-decimal-le 20 v (lit< tt) (omega arith) h))
  where
    by : AppendsLastDigit digits
    by = record { one = λ k n l. rw (lt-ltb _ _ l); more = λ k n l. rw (le-ltb _ _ l) }

pub length-decimal : (v : ℕ) → length (decimal v) ≤ 20
unfolding decimal
length-decimal v = length_digits 20 v

-- Below ten there is one digit.
pub decimal_digit : (v : ℕ) → v < 10 → decimal v ≡ (48 + v) ∷ []
unfolding decimal digits
decimal_digit v h = rw (lt-ltb _ _ h)

-- Below a hundred there are two.
pub decimal_two : (v : ℕ) → 10 ≤ v → v < 100 → decimal v ≡ (48 + v / 10) ∷ [] ++ (48 + v % 10) ∷ []
unfolding decimal digits
decimal_two v l h = rw (le-ltb _ _ l, lt-ltb (v / 10) 10 (omega (arith, h)))

pub length-decimal_two : (v : ℕ) → 10 ≤ v → v < 100 → length (decimal v) ≡ 2
length-decimal_two v l h = ap length (decimal_two v l h)

pub decimal_fits : (v from : ℕ) {size : ℕ} → from + 20 ≤ size → from + length (decimal v) ≤ size
decimal_fits v from h = omega (arith, length-decimal v)

-- ---- words

pub length-word : (c : Class) → length (word c) ≤ 7
unfolding word text
length-word Idle = lit≤ tt
length-word Counted = lit≤ tt
length-word Read = lit≤ tt
length-word Repeat = lit≤ tt
length-word (Refused n) = lit≤ tt

-- ---- lines

pub length_front : (k : ℕ) (c : Class) → length (front k c) ≤ 29
unfolding front text
length_front k c =
    let l₂ : length (decimal k ++ 32 ∷ []) ≤ 21 = omega (arith, length-append (decimal k) (32 ∷ []), length-decimal k) in
    let l₃ : length (decimal k ++ 32 ∷ [] ++ word c) ≤ 28 = omega (arith, length-append (decimal k ++ 32 ∷ []) (word c), length-word c) in
    omega (arith, length-append (decimal k ++ 32 ∷ [] ++ word c) (32 ∷ []))

pub length-line : (k : ℕ) (a : Answer) → length (line k a) ≤ 71
unfolding line front text
length-line k a =
    let f : List ℕ = front k a.class in
    let n : ℕ = amount a.class a.units in
    let m : List ℕ = decimal a.missing in
    let l₁ : length f ≤ 29 = length_front k a.class in
    let l₂ : length (f ++ decimal n) ≤ 49 = omega (arith, length-append f (decimal n), length-decimal n) in
    let l₃ : length (f ++ decimal n ++ 32 ∷ []) ≤ 50 = omega (arith, length-append (f ++ decimal n) (32 ∷ [])) in
    let l₄ : length (f ++ decimal n ++ 32 ∷ [] ++ m) ≤ 70 = omega (arith, length-append (f ++ decimal n ++ 32 ∷ []) m, length-decimal a.missing) in
    omega (arith, length-append (f ++ decimal n ++ 32 ∷ [] ++ m) (10 ∷ []))
