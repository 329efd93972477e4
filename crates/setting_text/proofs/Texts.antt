-- Laws of lines, words and numbers, in the code's own tests.
use Prim.Native.Nat.{ℕ, suc, ◌+◌, ◌-◌, ◌*◌, ◌≤◌, ◌<◌}
use mathlib.Core.Path.{◌≡◌, refl, sym, ap, ◌∙◌}
use mathlib.Core.Bool.{Bool, true, false, cond, not, ◌&&◌}
use mathlib.Core.List.{List, [], ◌∷◌}
use native.Mathlib.Omega.{arith}
use native.Mathlib.Numerals.{one-add}
use lib.ListN.{length, take, drop, get_or, drop_of_length-le}
use lib.Seq.{drop-cons}
use borrow.Author.Tests.{le-leb, lt-leb, ltb-false}
use Rattle.std.specs.Prelude.{Option, Some, None, unwrap_or, nat_lt}
use Rattle.std.specs.List.{position, position_or_len}
use Rattle.std.proofs.lemmas.List.Recursion.{is_position_or_len}
use Rattle.rules.specs.Tests.{◌≤?◌}
use Rattle.setting_text.specs.declared.Stop.TheVariants as stop
use Rattle.setting_text.specs.Texts.{blank, stops, until, cut, full, words, first, others, digit, digits, is_number, value, number_of}
use Rattle.setting_text.specs.Places.{Until, number_from}

-- ---- where the first octet stands that passes

pub until-most : (p : ℕ → Bool) (xs : List ℕ) → until p xs ≤ length xs
unfolding until
until-most p [] = omega arith
until-most p (x ∷ xs) = go (p x) (until-most p xs)
  where
    go : (b : Bool) → until p xs ≤ length xs → cond b 0 (suc (until p xs)) ≤ suc (length xs)
    go true h = omega arith
    go false h = omega arith

until_is : (p : ℕ → Bool) (xs : List ℕ) → until p xs ≡ position_or_len p xs
unfolding until
until_is p xs = is_position_or_len (until p) p refl (λ x ys. ap (λ (n : ℕ). cond (p x) 0 n) (sym (one-add (until p ys)))) xs

pub until_found : (s : _) (xs : List ℕ) (r : Option ℕ) → r ≡ position (stops s) xs → Until s xs (unwrap_or r (length xs))
until_found s xs r e =
    let q : unwrap_or r (length xs) ≡ until (stops s) xs = rw e (go (nat_lt (position_or_len (stops s) xs) (length xs)) refl) in
    record { counts = q; within = omega (arith, q, until-most (stops s) xs) }
  where
    go : (b : Bool) → nat_lt (position_or_len (stops s) xs) (length xs) ≡ b
        → unwrap_or (cond b (Some (position_or_len (stops s) xs)) None) (length xs) ≡ until (stops s) xs
    go true h = sym (until_is (stops s) xs)
    go false h = omega (arith, until-most (stops s) xs, until_is (stops s) xs, ltb-false _ _ h)

-- ---- cutting

-- What follows the octet at which a list was cut.
abbrev pub pieces : (ℕ → Bool) → List ℕ → List (List ℕ)
pieces p [] = []
pieces p (x ∷ xs) = cut p xs

pub cut-until : (p : ℕ → Bool) (xs : List ℕ) → cut p xs ≡ take (until p xs) xs ∷ pieces p (drop (until p xs) xs)
unfolding until
cut-until p [] = refl
cut-until p (x ∷ xs) = go (p x) refl (cut-until p xs)
  where
    go : (b : Bool) → p x ≡ b → cut p xs ≡ take (until p xs) xs ∷ pieces p (drop (until p xs) xs)
        → cut p (x ∷ xs) ≡ take (until p (x ∷ xs)) (x ∷ xs) ∷ pieces p (drop (until p (x ∷ xs)) (x ∷ xs))
    go true e q = rw e
    go false e q = rw (e, q)

-- A list that is at its end, or at an octet that passes.
abbrev Stopped : (ℕ → Bool) → List ℕ → Type 0
Stopped p [] = ◌≡◌ {A = ℕ} 0 0
Stopped p (x ∷ xs) = p x ≡ true

stopped : (p : ℕ → Bool) (xs : List ℕ) → Stopped p (drop (until p xs) xs)
unfolding until
stopped p [] = refl
stopped p (x ∷ xs) = go (p x) refl (stopped p xs)
  where
    go : (b : Bool) → p x ≡ b → Stopped p (drop (until p xs) xs) → Stopped p (drop (until p (x ∷ xs)) (x ∷ xs))
    go true e q = rw e e
    go false e q = rw e q

full-after : (p : ℕ → Bool) (zs : List ℕ) → Stopped p zs → full (pieces p zs) ≡ full (cut p zs)
unfolding full
full-after p [] e = refl
full-after p (z ∷ zs) e = rw e

-- ---- words

pub skip : (xs : List ℕ) → words xs ≡ words (drop (until (stops stop.Word) xs) xs)
unfolding words until full
skip [] = refl
skip (x ∷ xs) = go (blank x) refl (skip xs)
  where
    go : (b : Bool) → blank x ≡ b → words xs ≡ words (drop (until (stops stop.Word) xs) xs)
        → words (x ∷ xs) ≡ words (drop (until (stops stop.Word) (x ∷ xs)) (x ∷ xs))
    go true e q = rw e q
    go false e q = rw e (rw e)

not-true : (b : Bool) → not b ≡ true → b ≡ false
not-true true e = sym e
not-true false e = refl

front_at : (ys : List ℕ) → Stopped (stops stop.Word) ys → first (words ys) ≡ take (until (stops stop.Blank) ys) ys
unfolding words first full until
front_at [] e = refl
front_at (y ∷ ys) e =
    ap (λ (zs : List (List ℕ)). first (full zs)) (cut-until (stops stop.Blank) (y ∷ ys)) ∙ rw (not-true (blank y) e)

after-at : (ys : List ℕ) → Stopped (stops stop.Word) ys → others (words ys) ≡ words (drop (until (stops stop.Blank) ys) ys)
unfolding words others full until
after-at [] e = refl
after-at (y ∷ ys) e =
    ap (λ (zs : List (List ℕ)). others (full zs)) (cut-until (stops stop.Blank) (y ∷ ys))
    ∙ rw (not-true (blank y) e) (full-after (stops stop.Blank) _ (stopped (stops stop.Blank) ys))

-- The next word of `xs`, and those after it, from how many octets are blank and how many are not.
module _ (xs : List ℕ) where
  pub front : first (words xs) ≡ take (until (stops stop.Blank) (drop (until (stops stop.Word) xs) xs)) (drop (until (stops stop.Word) xs) xs)
  front = rw (skip xs) (front_at _ (stopped (stops stop.Word) xs))

  pub after : others (words xs) ≡ words (drop (until (stops stop.Blank) (drop (until (stops stop.Word) xs) xs)) (drop (until (stops stop.Word) xs) xs))
  after = rw (skip xs) (after-at _ (stopped (stops stop.Word) xs))

-- ---- numbers

module _ (v : ℕ) (w : List ℕ) (i : ℕ) (h : i < length w) where
  pub number-turn : digit (get_or w i 0) ≡ true → number_from v (drop i w) ≡ number_from (10 * v + (get_or w i 0 - 48)) (drop (suc i) w)
  unfolding number_from digits value
  number-turn e = rw (drop-cons w i 0 h, e)

  pub number-stop : digit (get_or w i 0) ≡ false → number_from v (drop i w) ≡ None
  unfolding number_from digits
  number-stop e = rw (drop-cons w i 0 h, e)

value-least : (n : ℕ) (w : List ℕ) → n ≤ value n w
unfolding value
value-least n [] = omega arith
value-least n (x ∷ w) = omega (arith, value-least (10 * n + (x - 48)) w)

pub number_large : (v : ℕ) (w : List ℕ) → 65535 < v → number_from v w ≡ None
unfolding number_from
number_large v w h = go (digits w)
  where
    go : (b : Bool) → cond (b && value v w ≤? 65535) (Some (value v w)) None ≡ None
    go true = let l : 65535 < value v w = omega (arith, value-least v w) in rw (lt-leb _ _ l)
    go false = refl

pub number-end : (v : ℕ) (w : List ℕ) (i : ℕ) → length w ≤ i → v ≤ 65535 → number_from v (drop i w) ≡ Some v
unfolding number_from digits value
number-end v w i h q = rw (drop_of_length-le w h, le-leb _ _ q)

pub number-some : (w : List ℕ) → 0 < length w → number_of w ≡ number_from 0 w
unfolding number_of number_from is_number
number-some [] h = absurd (omega arith)
number-some (x ∷ w) h = refl

pub number-none : (w : List ℕ) → length w ≡ 0 → number_of w ≡ None
unfolding number_of is_number
number-none [] h = refl
number-none (x ∷ w) h = absurd (omega arith)
