-- What is left of a text while it is put octet by octet, and how a pattern and a list of texts go on at each octet.
use Prim.Native.Nat.{ℕ, suc, ◌+◌, ◌*◌, ◌≤◌, ◌<◌}
use mathlib.Core.Path.{◌≡◌, refl, sym, ap, ap₂, subst, ◌∙◌}
use mathlib.Core.Bool.{Bool, true, false, cond}
use mathlib.Core.List.{List, [], ◌∷◌, ◌++◌}
use lib.ListN.{length, get_or, drop, length-append, drop_of_length-le}
use lib.Seq.{drop-cons}
use lib.Dec.{lit≤}
use native.Mathlib.Numerals.{add-one}
use native.Mathlib.Omega.{arith}
use borrow.Author.Tests.{eq-eqb, ne_eqb}
use Rattle.std.proofs.Common.{Option, None, Some, unwrap_or, option_copied, option_map, eqb}
use denote.Ref.{Bor}
use Rattle.std.proofs.Common.{MatchOption}
use denote.Param.Members.{Mut}
use Rattle.std.specs.Fn.{CalledAt}
use Rattle.std.specs.Iterator.{YieldsThen}
use Rattle.std.specs.Slice.Iter.{split_steps, split_rest, split_done, split_callee}
use Rattle.std.proofs.lemmas.Iterator.Consumers.{nth_from_yields_List}
use Rattle.std.proofs.lemmas.Iterator.Splits.{YieldsList-from_slice_split}
use Rattle.std.specs.List.{slice_split, onto_first}
use Rattle.std.specs.Slice.Iter.{iter_rest, iter_steps}
use Rattle.std.proofs.Common.{Iter}
use Rattle.std.proofs.lemmas.List.{nil_from_length}
use Rattle.std.proofs.lemmas.Option.{unwrap_or-slice_get}
use Rattle.rules.specs.Areas.{laid}
use Rattle.rules.specs.Tests.{◌=?◌}
use Rattle.rules.specs.Listing.{digits, decimal}
use Rattle.rules.proofs.Areas.{laid_nil, laid-laid}
use Rattle.listing_text.specs.Puts.{Put, filled, onto, parts, part}
use Rattle.listing_text.proofs.Laws.{put-length, length-decimal}

-- With `ys` from octet `at` on, the area is what it was with `xs` from octet `from` on, and has room for them.
pub record Left (ys area : List ℕ) (at : ℕ) (xs area₀ : List ℕ) (from : ℕ) : Type 0 where
  pub octets : laid area at ys ≡ laid area₀ from xs
  pub ends : at + length ys ≡ from + length xs
  pub room : at + length ys ≤ length area
  pub same : length area ≡ length area₀

module _ {area : List ℕ} {at : ℕ} {xs area₀ : List ℕ} {from : ℕ} where
  pub left-put : {ds ys area' : List ℕ} {at' : ℕ} → Left (ds ++ ys) area at xs area₀ from → Put ds area at area' at' → Left ys area' at' xs area₀ from
  left-put {ds} {ys} l p =
      let n : length (ds ++ ys) ≡ length ds + length ys = length-append ds ys in
      let k : at + length ds ≤ length area = omega (arith, l.room) in
      let e = put-length p k in
      record {
        octets = ap₂ (λ (a : List ℕ) (i : ℕ). laid a i ys) p.octets p.ends ∙ laid-laid area at ds k ys ∙ l.octets;
        ends = omega (arith, p.ends, l.ends);
        room = omega (arith, p.ends, l.room);
        same = e ∙ l.same;
      }

  pub left-none : Left [] area at xs area₀ from → Put xs area₀ from area at
  left-none l = record { octets = sym (laid_nil area at) ∙ l.octets; ends = omega (arith, l.ends) }

  left_as : {ys zs : List ℕ} → ys ≡ zs → Left ys area at xs area₀ from → Left zs area at xs area₀ from
  left_as e l = subst (λ (ws : List ℕ). Left ws area at xs area₀ from) e l

-- ---- patterns

-- The next of the numbers, and those after it.
pub next-number : (s t : Iter ℕ) (r : Option (Bor ℕ)) → iter_steps s r t
    → (unwrap_or (option_copied r) 0 ≡ get_or (iter_rest s) 0 0) × (iter_rest t ≡ drop 1 (iter_rest s))
next-number s t None e = let n = nil_from_length (iter_rest s) e.0 in (rw n, rw (e.1, n))
next-number s t (Some x) e = (rw e, rw e)

module _ (p : List ℕ) (i : ℕ) (h : i < length p) where
  filled-mark : (vs : List ℕ) → get_or p i 0 ≡ 35 → filled (drop i p) vs ≡ decimal (get_or vs 0 0) ++ filled (drop (i + 1) p) (drop 1 vs)
  unfolding filled
  filled-mark vs e = rw (drop-cons p i 0 h, eq-eqb _ _ e, add-one i)

  filled-plain : (vs : List ℕ) → (get_or p i 0 ≡ 35 → ⊥) → filled (drop i p) vs ≡ (get_or p i 0 ∷ []) ++ filled (drop (i + 1) p) vs
  unfolding filled
  filled-plain vs e = rw (drop-cons p i 0 h, ne_eqb _ _ e, add-one i)

  module _ (vs : List ℕ) {area : List ℕ} {at : ℕ} {xs area₀ : List ℕ} {from : ℕ} (l : Left (filled (drop i p) vs) area at xs area₀ from) where
    pub mark-room : {v : ℕ} → get_or p i 0 ≡ 35 → v ≡ get_or vs 0 0 → at + length (decimal v) ≤ length area
    mark-room {v} e f =
        let m = (left_as (filled-mark vs e) l).room in
        rw f (omega (arith, m, length-append (decimal (get_or vs 0 0)) (filled (drop (i + 1) p) (drop 1 vs))))

    pub mark-next : {v : ℕ} {area' : List ℕ} {at' : ℕ} → get_or p i 0 ≡ 35 → v ≡ get_or vs 0 0 → Put (decimal v) area at area' at'
        → Left (filled (drop (i + 1) p) (drop 1 vs)) area' at' xs area₀ from
    mark-next {v} {area'} {at'} e f q =
        left-put (left_as (filled-mark vs e) l) (subst (λ (n : ℕ). Put (decimal n) area at area' at') f q)

    pub plain-room : (get_or p i 0 ≡ 35 → ⊥) → at + 1 ≤ length area
    plain-room e = let m = (left_as (filled-plain vs e) l).room in omega (arith, m)

    pub plain-next : {area' : List ℕ} {at' : ℕ} → (get_or p i 0 ≡ 35 → ⊥) → Put (get_or p i 0 ∷ []) area at area' at'
        → Left (filled (drop (i + 1) p) vs) area' at' xs area₀ from
    plain-next e q = left-put (left_as (filled-plain vs e) l) q

pub filled-end : (p vs : List ℕ) (i : ℕ) {area : List ℕ} {at : ℕ} {xs area₀ : List ℕ} {from : ℕ} → length p ≤ i
    → Left (filled (drop i p) vs) area at xs area₀ from → Put xs area₀ from area at
unfolding filled
filled-end p vs i h l = left-none (rw (drop_of_length-le p h) at l)

length-zero : length (decimal 0) ≤ 1
unfolding decimal digits
length-zero = lit≤ tt

-- Each number takes the place of its mark, and has at most twenty digits.
pub filled-most : (p vs : List ℕ) → length (filled p vs) ≤ length p + 19 * length vs
unfolding filled
filled-most [] vs = omega arith
filled-most (x ∷ p) [] = by (x =? 35) (filled-most p [])
  where
    by : (b : Bool) → length (filled p []) ≤ length p + 0 → length (cond b (decimal 0 ++ filled p []) (x ∷ filled p [])) ≤ suc (length p) + 0
    by true h = omega (arith, length-zero, length-append (decimal 0) (filled p []))
    by false h = omega arith
filled-most (x ∷ p) (v ∷ vs) = by (x =? 35) (filled-most p vs) (filled-most p (v ∷ vs))
  where
    by : (b : Bool) → length (filled p vs) ≤ length p + 19 * length vs → length (filled p (v ∷ vs)) ≤ length p + 19 * suc (length vs)
        → length (cond b (decimal v ++ filled p vs) (x ∷ filled p (v ∷ vs))) ≤ suc (length p) + 19 * suc (length vs)
    by true h k = omega (arith, length-decimal v, length-append (decimal v) (filled p vs))
    by false h k = omega arith

pub filled_fits : (p vs : List ℕ) (from : ℕ) {size : ℕ} → from + (length p + 19 * length vs) ≤ size → from + length (filled p vs) ≤ size
filled_fits p vs from h = omega (arith, filled-most p vs)

-- ---- texts

-- The texts between the marks are what a split at the marks gives.
parts-split : (t : List ℕ) → slice_split (λ (x : ℕ). eqb x 124) t ≡ parts t
unfolding parts onto
parts-split [] = refl
parts-split (x ∷ t) = rw (parts-split t) (ap (λ (ps : List (List ℕ)). cond (eqb x 124) ([] ∷ parts t) ps) (by (parts t)))
  where
    by : (ps : List (List ℕ)) → onto_first x ps ≡ onto x ps
    by [] = refl
    by (p ∷ ps) = refl

-- The n-th of them, if there is one, is what such a split gives after n.
pub part-nth : {F : Type 0} {s : _} (g : Mut F (Bor ℕ × Unit {0}) Bool) {f : F} (t : List ℕ) (n : ℕ) (r : Option (Bor (List ℕ))) (u : _)
    → ((xs : List (Bor (List ℕ))) × YieldsThen (split_steps g) s xs r u × MatchOption r (length xs ≤ n) (λ _. length xs ≡ n))
    → split_rest s ≡ t → split_done s ≡ false → split_callee s ≡ f
    → ((x : ℕ) (b : Bool) (q : F) → CalledAt g f x b q → (q ≡ f) × (b ≡ eqb x 124))
    → part t n ≡ unwrap_or (option_map (λ (x : Bor (List ℕ)). x.now) r) []
unfolding part
part-nth g t n r u ran rest done callee tests =
    let mark : ℕ → Bool = λ x. eqb x 124 in
    let e = nth_from_yields_List r u n ran (YieldsList-from_slice_split g mark t rest done callee tests) in
    ap (λ (ps : List (List ℕ)). get_or ps n []) (sym (parts-split t)) ∙ sym (unwrap_or-slice_get (slice_split mark t) n [])
    ∙ ap (λ (o : Option (List ℕ)). unwrap_or o []) (sym e)
