-- A pattern is labels with a mark behind each, and an end; filled, it is these labels with a number behind each, and that end.
use Prim.Native.Nat.{ℕ, ◌+◌, ◌*◌, ◌≤◌}
use mathlib.Core.Path.{◌≡◌, refl, sym, ap, subst, ◌∙◌}
use mathlib.Core.Bool.{Bool, true, false, cond, not, ◌&&◌, false≢true}
use mathlib.Core.List.{List, [], ◌∷◌, ◌++◌, append-nil}
use lib.ListN.{length, get_or, drop}
use native.Mathlib.Omega.{arith}
use Rattle.rules.specs.Tests.{◌=?◌, ◌≠?◌}
use Rattle.rules.specs.Listing.{decimal}
use Rattle.rules.proofs.Tests.{and_left, and_right}
use Rattle.listing_text.specs.Puts.{Put, filled}
use Rattle.listing_text.proofs.Turns.{filled-most}

unfoldable pub marked : List (List ℕ) → List ℕ → List ℕ
marked [] end = end
marked (s ∷ ss) end = s ++ 35 ∷ marked ss end

unfoldable pub strung : List (List ℕ) → List ℕ → List ℕ → List ℕ
strung [] vs end = end
strung (s ∷ ss) vs end = s ++ (decimal (get_or vs 0 0) ++ strung ss (drop 1 vs) end)

-- No mark stands in a label or in the end.
unfoldable pub plain : List ℕ → Bool
plain [] = true
plain (x ∷ xs) = x ≠? 35 && plain xs

unfoldable pub plains : List (List ℕ) → List ℕ → Bool
plains [] end = plain end
plains (s ∷ ss) end = plain s && plains ss end

filled-over : (s p vs : List ℕ) → plain s ≡ true → filled (s ++ p) vs ≡ s ++ filled p vs
unfolding filled plain
filled-over [] p vs h = refl
filled-over (x ∷ s) p vs h = by (x =? 35) (and_left (x ≠? 35) (plain s) h) (filled-over s p vs (and_right (x ≠? 35) (plain s) h))
  where
    by : (b : Bool) → not b ≡ true → filled (s ++ p) vs ≡ s ++ filled p vs
        → cond b (decimal (get_or vs 0 0) ++ filled (s ++ p) (drop 1 vs)) (x ∷ filled (s ++ p) vs) ≡ x ∷ (s ++ filled p vs)
    by true k e = absurd (false≢true k)
    by false k e = ap (λ (ys : List ℕ). x ∷ ys) e

-- An end without marks.
filled_none : (s vs : List ℕ) → plain s ≡ true → filled s vs ≡ s
unfolding filled
filled_none s vs h = ap (λ (t : List ℕ). filled t vs) (sym (append-nil s)) ∙ filled-over s [] vs h ∙ append-nil s

pub filled-marked : (ss : List (List ℕ)) (vs end : List ℕ) → plains ss end ≡ true → filled (marked ss end) vs ≡ strung ss vs end
unfolding filled marked strung plains
filled-marked [] vs end h = filled_none end vs h
filled-marked (s ∷ ss) vs end h =
    filled-over s (35 ∷ marked ss end) vs (and_left (plain s) (plains ss end) h)
    ∙ ap (λ (ys : List ℕ). s ++ (decimal (get_or vs 0 0) ++ ys)) (filled-marked ss (drop 1 vs) end (and_right (plain s) (plains ss end) h))

-- ---- such a text put, and the room for it

module _ (ss : List (List ℕ)) (vs end : List ℕ) {xs : List ℕ} (e : strung ss vs end ≡ xs) (h : plains ss end ≡ true) where
  pub put-strung : {area : List ℕ} {from : ℕ} {area' : List ℕ} {at : ℕ} → Put (filled (marked ss end) vs) area from area' at → Put xs area from area' at
  put-strung {area} {from} {area'} {at} p = subst (λ (ys : List ℕ). Put ys area from area' at) (filled-marked ss vs end h ∙ e) p

  pub fits-strung : (from n : ℕ) {size : ℕ} → length xs ≤ n → from + n ≤ size → from + length (filled (marked ss end) vs) ≤ size
  fits-strung from n k room = omega (arith, ap length (filled-marked ss vs end h ∙ e))

  pub strung-most : length xs ≤ length (marked ss end) + 19 * length vs
  strung-most = omega (arith, ap length (filled-marked ss vs end h ∙ e), filled-most (marked ss end) vs)
