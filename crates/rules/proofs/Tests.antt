-- Laws of the tests: what passes all of them passes each; look-up finds the first; the refusal given.
use mathlib.Core.Path.{◌≡◌, refl, sym, ap, ◌∙◌}
use Prim.Native.Nat.{ℕ, zero, suc, ◌≤◌, ◌<◌}
use native.Mathlib.Nat.{not-suc-le-zero, le_antisymm, lt_of_not-le}
use native.Mathlib.Decide.{dec_le}
use native.Mathlib.Omega.{arith}
use mathlib.Core.Bool.{Bool, true, false, cond, ◌&&◌, and-eq-true_iff, true≢false}
use mathlib.Core.List.{List, [], ◌∷◌}
use lib.ListN.{get_or, replicate}
use Rattle.std.proofs.lemmas.Bool.{and_from}
use Rattle.std.specs.Prelude.{Option, Some, None}
use Rattle.rules.specs.declared.Refusal.{Refusal}
use Rattle.rules.specs.Tests.{all, every, before, first, number_of, Row, given}

-- Two numbers are in one order or the other.
pub split {ℓ} : {X : Type ℓ} (a b : ℕ) → (a ≤ b → X) → (b < a → X) → X
split a b f g = elim (dec_le a b) [ yes h ↦ f h | no h ↦ g (lt_of_not-le h) ]

-- Two numbers are the same or not.
pub same {ℓ} : {X : Type ℓ} (a b : ℕ) → (a ≡ b → X) → ((a ≡ b → ⊥) → X) → X
same a b f g =
    split a b (λ p. split b a (λ q. f (le_antisymm p q)) (λ q. g (λ e. absurd (omega arith)))) (λ p. g (λ e. absurd (omega arith)))

pub and_left : (a b : Bool) → (a && b) ≡ true → a ≡ true
and_left a b e = ((and-eq-true_iff a b).0 e).0

pub and_right : (a b : Bool) → (a && b) ≡ true → b ≡ true
and_right a b e = ((and-eq-true_iff a b).0 e).1

-- A list of one value has it at each place, and past its end where it is what stands for none.
pub get_d_alike : {A : Type 0} (n i : ℕ) (a : A) → get_or (replicate n a) i a ≡ a
get_d_alike zero i a = refl
get_d_alike (suc n) zero a = refl
get_d_alike (suc n) (suc i) a = get_d_alike n i a

-- ---- all, every

pub all-at : (ts : List Bool) (i : ℕ) → all ts ≡ true → get_or ts i true ≡ true
unfolding all
all-at [] i e = refl
all-at (t ∷ ts) zero e = and_left t (all ts) e
all-at (t ∷ ts) (suc i) e = all-at ts i (and_right t (all ts) e)

pub all_cons : (t : Bool) (ts : List Bool) → t ≡ true → all ts ≡ true → all (t ∷ ts) ≡ true
unfolding all
all_cons t ts p q = and_from t (all ts) p q

pub all_nil : all [] ≡ true
unfolding all
all_nil = refl

module _ (p : ℕ → Bool) where
  pub every-at : (n : ℕ) → every n p ≡ true → (i : ℕ) → i < n → p i ≡ true
  unfolding every
  every-at zero e i h = absurd (not-suc-le-zero h)
  every-at (suc n) e i h =
      same i n (λ q. ap p q ∙ and_right (every n p) (p n) e) (λ q. every-at n (and_left (every n p) (p n) e) i (omega arith))

  pub at_every : (n : ℕ) → ((i : ℕ) → i < n → p i ≡ true) → every n p ≡ true
  unfolding every
  at_every zero h = refl
  at_every (suc n) h = and_from (every n p) (p n) (at_every n (λ i l. h i (omega arith))) (h n (omega arith))

  pub every-not : (n i : ℕ) → i < n → p i ≡ false → every n p ≡ false
  every-not n i h e = go (every n p) refl
    where
      go : (t : Bool) → every n p ≡ t → t ≡ false
      go true q = absurd (true≢false (sym (every-at n q i h) ∙ e))
      go false q = refl

  -- ---- first

  before-none : (q r : Option ℕ) → q ≡ None → before q r ≡ r
  before-none q r e = ap (λ (x : Option ℕ). before x r) e

  pub first-none : (n : ℕ) → ((i : ℕ) → i < n → p i ≡ false) → first n p ≡ None
  unfolding first
  first-none zero h = refl
  first-none (suc n) h =
      before-none (first n p) _ (first-none n (λ i l. h i (omega arith))) ∙ ap (λ (t : Bool). cond t (Some n) None) (h n (omega arith))

  pub first-at : (n i : ℕ) → i < n → p i ≡ true → ((j : ℕ) → j < i → p j ≡ false) → first n p ≡ Some i
  unfolding first
  first-at zero i l e h = absurd (not-suc-le-zero l)
  first-at (suc n) i l e h =
      same i n
      (λ q.
      before-none (first n p) _ (first-none n (λ j k. h j (omega arith)))
      ∙ ap (λ (t : Bool). cond t (Some n) None) (ap p (sym q) ∙ e) ∙ ap Some (sym q))
      (λ q. ap (λ (x : Option ℕ). before x (cond (p n) (Some n) None)) (first-at n i (omega arith) e h))

  -- What is known of the place found.
  abbrev pub Found : ℕ → Option ℕ → Type 0
  Found n (Some i) = (i < n) × (p i ≡ true)
  Found n None = Unit {0}

  pub first_found : (n : ℕ) → Found n (first n p)
  unfolding first
  first_found zero = tt
  first_found (suc n) = go (first n p) (first_found n) (p n) refl
    where
      go : (q : Option ℕ) → Found n q → (t : Bool) → p n ≡ t → Found (suc n) (before q (cond t (Some n) None))
      go (Some i) h t e = (omega arith, h.1)
      go None h true e = (omega arith, e)
      go None h false e = tt

-- A place that was found is below n, and passes.
pub found_at : (p : ℕ → Bool) (n i : ℕ) → first n p ≡ Some i → (i < n) × (p i ≡ true)
found_at p n i e = go (first n p) (first_found p n) e
  where
    go : (q : Option ℕ) → Found p n q → q ≡ Some i → (i < n) × (p i ≡ true)
    go (Some j) h k = let m : j ≡ i = cc in rw (sym m) h
    go None h k = let z : ◌≡◌ {A = ℕ} 0 1 = cc in absurd (omega arith)

-- ---- the refusal given

-- No refusal has the number 0.
pub some_number : (e : Refusal) → number_of e ≡ 0 → ⊥
some_number Refusal.Invalid z = absurd (omega arith)
some_number Refusal.AreaShort z = absurd (omega arith)
some_number Refusal.Length z = absurd (omega arith)
some_number Refusal.Check z = absurd (omega arith)
some_number Refusal.Version z = absurd (omega arith)
some_number Refusal.Craft z = absurd (omega arith)
some_number Refusal.HeaderEnd z = absurd (omega arith)
some_number Refusal.Fields z = absurd (omega arith)
some_number Refusal.Unlisted z = absurd (omega arith)
some_number Refusal.CountLength z = absurd (omega arith)
some_number Refusal.OcfFlag z = absurd (omega arith)
some_number Refusal.DataField z = absurd (omega arith)
some_number Refusal.NoLane z = absurd (omega arith)
some_number Refusal.Batch z = absurd (omega arith)
some_number Refusal.Parts z = absurd (omega arith)
some_number Refusal.FrameNumber z = absurd (omega arith)

pub given_skip : (r : Row) (rs : List Row) → r.applies ≡ false → given (r ∷ rs) ≡ given rs
unfolding given
given_skip r rs e = ap (λ (t : Bool). cond t (number_of r.refusal) (given rs)) e

pub given-none : given [] ≡ 0
unfolding given
given-none = refl

-- Where none is given, the first does not apply, and none of the others is given.
pub given-zero : (r : Row) (rs : List Row) → given (r ∷ rs) ≡ 0 → (r.applies ≡ false) × (given rs ≡ 0)
unfolding given
given-zero r rs e = go r.applies e
  where
    go : (t : Bool) → cond t (number_of r.refusal) (given rs) ≡ 0 → (t ≡ false) × (given rs ≡ 0)
    go true q = absurd (some_number r.refusal q)
    go false q = (refl, q)
