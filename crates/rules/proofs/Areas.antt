-- Laws of laying octets into an area: they are read back, others stay, one laying after another is one, and a part's is the whole's.
use mathlib.Core.Path.{◌≡◌, refl, sym, ap, ap₂, ◌∙◌}
use Prim.Native.Nat.{ℕ, zero, suc, ◌+◌, ◌-◌, ◌≤◌}
use native.Mathlib.Nat.{zero-add, add_assoc}
use native.Mathlib.Omega.{arith}
use mathlib.Core.List.{List, [], ◌∷◌, ◌++◌, append_assoc}
use lib.ListN.{length, take, drop, length-append, length-drop, take-append-drop}
use lib.Seq.{length-take-le, take_at, drop_at, take-take, drop-drop, take-add, take-append-le, drop-append-le, drop-append-add}
use Rattle.rules.specs.Areas.{laid, joined}

-- ---- octets back to back

pub joined_append : (es bs : List (List ℕ)) → joined (es ++ bs) ≡ joined es ++ joined bs
unfolding joined
joined_append [] bs = refl
joined_append (e ∷ es) bs = ap (λ (x : List ℕ). e ++ x) (joined_append es bs) ∙ sym (append_assoc e (joined es) (joined bs))

-- ---- at the front of an area

pub laid_nil : (area : List ℕ) (from : ℕ) → laid area from [] ≡ area
unfolding laid
laid_nil area from =
    ap (λ (n : ℕ). take from area ++ [] ++ drop n area) (native.Mathlib.Nat.add-zero from)
    ∙ ap (λ (x : List ℕ). x ++ drop from area) (mathlib.Core.List.append-nil (take from area)) ∙ take-append-drop from area

pub laid-front : (area xs : List ℕ) → take (length xs) (laid area 0 xs) ≡ xs
unfolding laid
laid-front area xs = take_at xs _ (length xs) refl

pub laid-behind : (area xs : List ℕ) → drop (length xs) (laid area 0 xs) ≡ drop (length xs) area
unfolding laid
laid-behind area xs = drop_at xs _ (length xs) refl ∙ ap (λ (n : ℕ). drop n area) (zero-add (length xs))

-- ---- anywhere in an area with room

module _ (area : List ℕ) (from : ℕ) (xs : List ℕ) (room : from + length xs ≤ length area) where
  before-length : length (take from area) ≡ from
  before-length = length-take-le from area (omega arith)

  up-to-length : length (take from area ++ xs) ≡ from + length xs
  up-to-length = length-append (take from area) xs ∙ ap (λ (n : ℕ). n + length xs) before-length

  pub length-laid : length (laid area from xs) ≡ length area
  unfolding laid
  length-laid =
      length-append (take from area ++ xs) (drop (from + length xs) area)
      ∙ ap₂ ◌+◌ up-to-length (length-drop (from + length xs) area) ∙ omega arith

  -- The octets laid are read back.
  pub laid-at : take (length xs) (drop from (laid area from xs)) ≡ xs
  unfolding laid
  laid-at =
      ap (λ (ys : List ℕ). take (length xs) (drop from ys)) (append_assoc (take from area) xs (drop (from + length xs) area))
      ∙ ap (take (length xs)) (drop_at (take from area) _ from before-length) ∙ take_at xs _ (length xs) refl

  -- Those before them stay.
  pub laid-before : (a n : ℕ) → a + n ≤ from → take n (drop a (laid area from xs)) ≡ take n (drop a area)
  unfolding laid
  laid-before a n h =
      let k : a ≤ length (take from area) = omega (arith, before-length) in
      let m : n ≤ length (drop a (take from area)) = omega (arith, length-drop a (take from area), before-length) in
      ap (λ (ys : List ℕ). take n (drop a ys)) (append_assoc (take from area) xs (drop (from + length xs) area))
      ∙ ap (take n) (drop-append-le a (take from area) (xs ++ drop (from + length xs) area) k)
      ∙ take-append-le n (drop a (take from area)) (xs ++ drop (from + length xs) area) m
      ∙ inner a n from area h
    where
      inner : (a n b : ℕ) (l : List ℕ) → a + n ≤ b → take n (drop a (take b l)) ≡ take n (drop a l)
      inner zero n b l h = take-take n b l (omega arith)
      inner (suc a) n zero l h = absurd (omega arith)
      inner (suc a) n (suc b) [] h = refl
      inner (suc a) n (suc b) (x ∷ l) h = inner a n b l (omega arith)

  -- Those after them stay.
  pub laid-after : (a : ℕ) → from + length xs ≤ a → drop a (laid area from xs) ≡ drop a area
  unfolding laid
  laid-after a h =
      let e : a ≡ length (take from area ++ xs) + (a - (from + length xs)) = omega (arith, up-to-length) in
      let g : from + length xs + (a - (from + length xs)) ≡ a = omega arith in
      ap (λ (n : ℕ). drop n (take from area ++ xs ++ drop (from + length xs) area)) e
      ∙ drop-append-add (take from area ++ xs) (drop (from + length xs) area) (a - (from + length xs))
      ∙ drop-drop (a - (from + length xs)) (from + length xs) area ∙ ap (λ (n : ℕ). drop n area) g

  -- One after the other is both at once.
  pub laid-laid : (ys : List ℕ) → laid (laid area from xs) (from + length xs) ys ≡ laid area from (xs ++ ys)
  unfolding laid
  laid-laid ys =
      let behind : drop (from + length xs + length ys) (laid area from xs) ≡ drop (from + length xs + length ys) area = laid-after
      (from + length xs + length ys) (omega arith) in
      let front : take (from + length xs) (laid area from xs) ≡ take from area ++ xs = take_at (take from area ++ xs) _ (from + length xs) up-to-length in
      let n : from + length xs + length ys ≡ from + length (xs ++ ys) = add_assoc from (length xs) (length ys) ∙ ap (λ (k : ℕ). from + k)
      (sym (length-append xs ys)) in
      ap₂ (λ (p q : List ℕ). p ++ ys ++ q) front behind ∙ ap (λ (p : List ℕ). p ++ drop (from + length xs + length ys) area)
      (append_assoc (take from area) xs ys)
      ∙ ap (λ (k : ℕ). take from area ++ (xs ++ ys) ++ drop k area) n

-- ---- what is laid into a part of an area, n octets from octet a on, is laid into the whole, a further on

pub laid-part : (area : List ℕ) (a n from : ℕ) (xs : List ℕ) → a + n ≤ length area → from + length xs ≤ n
    → take a area ++ (laid (take n (drop a area)) from xs ++ drop n (drop a area)) ≡ laid area (a + from) xs
unfolding laid
laid-part area a n from xs inside room =
    let k : n ≤ length (drop a area) = omega (arith, length-drop a area) in
    let m : from + length xs ≤ length (take n (drop a area)) = omega (arith, length-take-le n (drop a area) k) in
    let behind : drop (from + length xs) (take n (drop a area)) ++ drop n (drop a area) ≡ drop (a + from + length xs) area =
    sym (drop-append-le (from + length xs) (take n (drop a area)) (drop n (drop a area)) m)
    ∙ ap (drop (from + length xs)) (take-append-drop n (drop a area)) ∙ drop-drop (from + length xs) a area
    ∙ ap (λ (i : ℕ). drop i area) (sym (add_assoc a from (length xs))) in
    ap (λ (p : List ℕ). take a area ++ (p ++ xs ++ drop (from + length xs) (take n (drop a area)) ++ drop n (drop a area)))
    (take-take from n (drop a area) (omega arith))
    ∙ regroup (take a area) (take from (drop a area)) xs (drop (from + length xs) (take n (drop a area))) (drop n (drop a area))
    ∙ ap₂ (λ (p q : List ℕ). p ++ xs ++ q) (sym (take-add a from area)) behind
  where
    regroup : (p q r s t : List ℕ) → p ++ (q ++ r ++ s ++ t) ≡ (p ++ q) ++ r ++ (s ++ t)
    regroup p q r s t = simp append_assoc

-- ---- after octets at the front

pub laid_next : (area xs ys : List ℕ) (n : ℕ) → n ≡ length xs → length xs ≤ length area → laid (laid area 0 xs) n ys ≡ laid area 0 (xs ++ ys)
laid_next area xs ys n e h =
    ap (λ (k : ℕ). laid (laid area 0 xs) k ys) (e ∙ sym (zero-add (length xs))) ∙ laid-laid area 0 xs (omega arith) ys
