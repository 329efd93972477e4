-- Laws of the places of lines, words and quotes, in the code's own tests.
use Prim.Native.Nat.{ℕ, zero, suc, max, ◌+◌, ◌-◌, ◌≤◌, ◌<◌}
use mathlib.Core.Path.{◌≡◌, refl, sym, ap, ◌∙◌}
use mathlib.Core.Bool.{Bool, true, false, cond}
use mathlib.Core.List.{List, [], ◌∷◌}
use native.Mathlib.Omega.{arith}
use lib.ListN.{length, take, drop, get_or, length-take, length-drop, drop_of_length-le}
use lib.Seq.{take_all, take-nil, take-take, drop-drop, drop-length, drop-cons}
use Rattle.setting_text.specs.declared.Stop.TheVariants as stop
use Rattle.setting_text.specs.Texts.{blank, stops, until, lines, words, first, others}
use Rattle.setting_text.specs.Places.{Word}
use Rattle.setting_text.proofs.Texts.{pieces, cut-until}
use Rattle.setting_text.specs.Quotes.{last_end, trimmed}
use Rattle.setting_text.specs.Parts.{Part, Line}

-- ---- lines

-- A text without octets has no line but an empty one.
lines_none : (j : ℕ) → get_or (lines []) j [] ≡ []
unfolding lines
lines_none zero = refl
lines_none (suc j) = refl

pieces-next : (zs : List ℕ) (j : ℕ) → get_or (pieces (stops stop.Feed) zs) j [] ≡ get_or (lines (drop 1 zs)) j []
unfolding lines
pieces-next [] j = sym (lines_none j)
pieces-next (z ∷ zs) j = refl

module _ (t : List ℕ) (at : ℕ) where
  pub line-none : length t < at → Line t at (length t) (length t)
  line-none h =
      let h' : length t ≤ at = omega arith in
      let e : drop at t ≡ [] = drop_of_length-le t h' in
      let f : drop (length t) t ≡ [] = drop-length t in
      let k : length t ≤ length t + 1 = omega arith in
      let g : drop (length t + 1) t ≡ [] = drop_of_length-le t k in
      let z : length t - length t ≡ 0 = omega arith in
      record {
        part = record { octets = rw (e, f, z) (lines_none 0); forward = omega arith; within = omega arith };
        after = λ j. rw (e, g) (lines_none (suc j) ∙ sym (lines_none j));
      }

  pub line-next : (size : ℕ) → size ≡ until (stops stop.Feed) (take (length t - at) (drop at t)) → at + size ≤ length t → Line t at at (at + size)
  unfolding lines
  line-next size s h =
      record {
        part = record { octets = rw (next, less); forward = omega arith; within = h };
        after = λ j. rw next (pieces-next (drop size (drop at t)) j ∙ ap (λ (x : List ℕ). get_or (lines x) j []) past);
      }
    where
      rest_is : take (length t - at) (drop at t) ≡ drop at t
      rest_is = let k : length (drop at t) ≤ length t - at = simp length-drop (omega arith) in take_all _ _ k

      next : lines (drop at t) ≡ take size (drop at t) ∷ pieces (stops stop.Feed) (drop size (drop at t))
      next = rw (s ∙ ap (until (stops stop.Feed)) rest_is) (cut-until (stops stop.Feed) (drop at t))

      less : at + size - at ≡ size
      less = omega arith

      past : drop 1 (drop size (drop at t)) ≡ drop (at + size + 1) t
      past = ap (drop 1) (drop-drop size at t) ∙ drop-drop 1 (at + size) t

-- One further, and none further.
further : (xs ys : List (List ℕ)) (n k : ℕ) → k < n
    → ((j : ℕ) → get_or xs (suc j) [] ≡ get_or ys j []) → get_or xs (n - k) [] ≡ get_or ys (n - (k + 1)) []
further xs ys n k h e = let z : n - k ≡ suc (n - (k + 1)) = omega arith in ap (λ (j : ℕ). get_or xs j []) z ∙ e (n - (k + 1))

here : (xs : List (List ℕ)) (n k : ℕ) → n ≤ k → get_or xs (n - k) [] ≡ get_or xs 0 []
here xs n k h = let z : n - k ≡ 0 = omega arith in ap (λ (j : ℕ). get_or xs j []) z

pub part_same : (xs ys t : List ℕ) (from to : ℕ) → ys ≡ xs → Part xs t from to → Part ys t from to
part_same xs ys t from to e p = record { octets = e ∙ p.octets; forward = p.forward; within = p.within }

module _ (t : List ℕ) (at from to : ℕ) (p : Line t at from to) (n k : ℕ) where
  pub line-further : k < n → get_or (lines (drop at t)) (n - k) [] ≡ get_or (lines (drop (to + 1) t)) (n - (k + 1)) []
  line-further h = further (lines (drop at t)) (lines (drop (to + 1) t)) n k h p.after

  pub line-here : n ≤ k → Part (get_or (lines (drop at t)) (n - k) []) t from to
  line-here h = part_same _ _ _ _ _ (here (lines (drop at t)) n k h) p.part

-- ---- words

word_first : (ws : List (List ℕ)) → get_or ws 0 [] ≡ first ws
unfolding first
word_first [] = refl
word_first (w ∷ ws) = refl

word-others : (ws : List (List ℕ)) (j : ℕ) → get_or ws (suc j) [] ≡ get_or (others ws) j []
unfolding others
word-others [] j = refl
word-others (w ∷ ws) j = refl

module _ (l : List ℕ) (at from to : ℕ) (p : Word l at from to) (n k : ℕ) where
  word_after : (j : ℕ) → get_or (words (drop at l)) (suc j) [] ≡ get_or (words (drop to l)) j []
  word_after j = word-others (words (drop at l)) j ∙ ap (λ (ws : List (List ℕ)). get_or ws j []) p.after

  pub word-further : k < n → get_or (words (drop at l)) (n - k) [] ≡ get_or (words (drop to l)) (n - (k + 1)) []
  word-further h = further (words (drop at l)) (words (drop to l)) n k h word_after

  pub word-here : n ≤ k → Part (get_or (words (drop at l)) (n - k) []) l from to
  word-here h =
      record {
        octets = here (words (drop at l)) n k h ∙ word_first (words (drop at l)) ∙ p.word;
        forward = p.forward;
        within = p.within;
      }

-- ---- the last octet that is no blank

module _ (l : List ℕ) (i e : ℕ) (h : i < length l) where
  pub end-gap : blank (get_or l i 0) ≡ true → last_end i e (drop i l) ≡ last_end (suc i) e (drop (suc i) l)
  unfolding last_end
  end-gap q = ap (last_end i e) (drop-cons l i 0 h) ∙ ap (λ (b : Bool). last_end (suc i) (cond b e (suc i)) (drop (suc i) l)) q

  pub end-word : blank (get_or l i 0) ≡ false → last_end i e (drop i l) ≡ last_end (suc i) (suc i) (drop (suc i) l)
  unfolding last_end
  end-word q = ap (last_end i e) (drop-cons l i 0 h) ∙ ap (λ (b : Bool). last_end (suc i) (cond b e (suc i)) (drop (suc i) l)) q

pub end_none : (l : List ℕ) (i e : ℕ) → length l ≤ i → last_end i e (drop i l) ≡ e
unfolding last_end
end_none l i e h = rw (drop_of_length-le l h)

-- ---- parts of parts

drop-take : (n w : ℕ) (xs : List ℕ) → drop n (take w xs) ≡ take (w - n) (drop n xs)
drop-take zero w xs = let z : w ≡ w - 0 = omega arith in ap (λ (k : ℕ). take k xs) z
drop-take (suc n) zero xs = let z : 0 - suc n ≡ 0 = omega arith in rw z
drop-take (suc n) (suc w) [] = rw (take-nil (suc w - suc n))
drop-take (suc n) (suc w) (x ∷ xs) =
    let z : w - n ≡ suc w - suc n = omega arith in
    drop-take n w xs ∙ ap (λ (k : ℕ). take k (drop n xs)) z

-- A part of the first n octets, and one of those from octet f on.
pub part-front : (xs t : List ℕ) (n a b : ℕ) → Part xs (take n t) a b → n ≤ length t → Part xs t a b
part-front xs t n a b p h =
    let k = simp length-take at p.within in
    let l : b - a ≤ n - a = omega (arith, k) in
    record {
      octets = p.octets ∙ ap (take (b - a)) (drop-take a n t) ∙ take-take (b - a) (n - a) (drop a t) l;
      forward = p.forward;
      within = omega (arith, k, h);
    }

part-behind : (xs t : List ℕ) (f a b : ℕ) → Part xs (drop f t) a b → f ≤ length t → Part xs t (f + a) (f + b)
part-behind xs t f a b p h =
    let k = simp length-drop at p.within in
    let m : b - a ≡ f + b - (f + a) = omega arith in
    record {
      octets = p.octets ∙ ap (take (b - a)) (drop-drop a f t) ∙ ap (λ (n : ℕ). take n (drop (f + a) t)) m;
      forward = omega (arith, p.forward);
      within = omega (arith, k, h);
    }

pub part_in : (xs t : List ℕ) (f to a b : ℕ) → Part xs (take (to - f) (drop f t)) a b → f ≤ to → to ≤ length t → Part xs t (f + a) (f + b)
part_in xs t f to a b p h g =
    let k : to - f ≤ length (drop f t) = simp length-drop (omega arith) in
    let l : f ≤ length t = omega arith in
    part-behind xs t f a b (part-front xs (drop f t) (to - f) a b p k) l

-- ---- the words of a line

pub words_part : (l : List ℕ) (from end : ℕ) → from ≡ until (stops stop.Word) l → from ≤ length l → end ≡ last_end 0 0 l → end ≤ length l
    → Part (trimmed l) l from (max end from)
unfolding trimmed
words_part l from end f h e g =
    let z : max end from - from ≡ end - from = omega arith in
    record { octets = rw (sym f, sym e, z); forward = omega arith; within = omega arith }
