-- Units back to back, and a frame that has the octets of their batch from `start` up to `stop`: the units that end in it, and what is held of
-- the one that goes on, where units that begin before octet j are lost. How many frames carry a unit goes by its first octet.
use mathlib.Core.Path.{◌≡◌, refl, ap, ap₂, ◌∙◌}
use mathlib.Core.Logic.{◌⊎◌}
use Prim.Native.Nat.{ℕ, zero, suc, ◌+◌, ◌-◌, ◌*◌, ◌≤◌, ◌<◌}
use native.Mathlib.Nat.{mul-zero}
use native.Mathlib.Omega.{arith}
use mathlib.Core.Bool.{Bool, true, false, cond, ◌&&◌}
use mathlib.Core.List.{List, [], ◌∷◌, ◌++◌, map, map-append}
use lib.ListN.{length, take, length-append}
use borrow.Author.Tests.{le-leb, lt-leb, lt-ltb, le-ltb}
use Rattle.rules.specs.declared.Fate.{Fate}
use Rattle.rules.specs.Tests.{◌≤?◌, ◌<?◌}
use Rattle.rules.specs.Areas.{joined}
use Rattle.rules.specs.Reading.{DataUnit, no_unit, carries, unit_from, unit_of, Made, become}
use Rattle.rules.proofs.Tests.{split}
use Rattle.rules.proofs.Lanes.{carries-some}
use Rattle.link.specs.Due.{ending}

-- ---- units with octets

abbrev pub Filled : List (List ℕ) → Type 0
Filled [] = Unit {0}
Filled (u ∷ us) = (0 < length u) × Filled us

-- ---- what a lane hands out and holds, the rest of what it makes left aside

pub record Yield : Type 0 where
  pub units : List DataUnit
  pub held : DataUnit

abbrev pub yields : List DataUnit → DataUnit → Yield
yields us h = record { units = us; held = h }

abbrev pub yield : Made → Yield
yield m = yields m.units m.held

-- What becomes of a unit's octets.
abbrev pub becomes : Fate → DataUnit → Yield
becomes f u = yield (become f u)

-- ---- spans

-- A unit that begins with octet a, by a function that says how many frames carry it.
abbrev pub spanned : (ℕ → ℕ) → ℕ → List ℕ → DataUnit
spanned n a u = record { octets = u; span = n a }

-- The first octets of a unit that k frames carry; nothing where there are none.
abbrev pub begun : ℕ → List ℕ → DataUnit
begun k xs = record { octets = xs; span = k * carries xs }

-- With a frame that starts with octet `start`: it carries units that begin in it, and is one more for those that began before.
unfoldable pub onward : ℕ → (ℕ → ℕ) → ℕ → ℕ
onward start n a = cond (start ≤? a) 1 (n a + 1)

pub onward_new : (start : ℕ) (n : ℕ → ℕ) (a : ℕ) → start ≤ a → onward start n a ≡ 1
unfolding onward
onward_new start n a h = rw (le-leb start a h)

pub onward_old : (start : ℕ) (n : ℕ → ℕ) (a : ℕ) → a < start → onward start n a ≡ n a + 1
unfolding onward
onward_old start n a h = rw (lt-leb start a h)

begun-none : (k : ℕ) → begun k [] ≡ no_unit
unfolding carries
begun-none k = ap (λ (i : ℕ). record { octets = []; span = i }) (mul-zero k)

pub begun-whole : (k : ℕ) (u : List ℕ) → 0 < length u → begun k u ≡ record { octets = u; span = k }
begun-whole k u h = ap (λ (i : ℕ). record { octets = u; span = i }) (rw (carries-some u h) (omega arith))

-- A unit that begins in a frame, and one that goes on in it.
pub begun-now : (xs : List ℕ) → unit_of xs ≡ begun 1 xs
begun-now xs = ap (λ (i : ℕ). record { octets = xs; span = i }) (omega arith)

pub begun-on : (k : ℕ) (xs ys : List ℕ) → 0 < length xs → 0 < length ys → unit_from (begun k xs) ys ≡ begun (k + 1) (xs ++ ys)
begun-on k xs ys h i =
    ap (λ (m : ℕ). record { octets = xs ++ ys; span = m })
    (rw (carries-some xs h, carries-some ys i, carries-some (xs ++ ys) (omega (arith, length-append xs ys))) (omega arith))

-- ---- held octets

-- What is held o octets after octet a of the batch, where a unit that begins before octet j is lost.
unfoldable pub held_from : ℕ → (ℕ → ℕ) → ℕ → ℕ → List (List ℕ) → DataUnit
held_from j n a o [] = no_unit
held_from j n a o (u ∷ us) = cond (length u ≤? o) (held_from j n (a + length u) (o - length u) us) (cond (j ≤? a) (begun (n a) (take o u)) no_unit)

-- Whichever way a test goes.
pub either {ℓ} : {A : Type ℓ} (t : Bool) (x : A) → cond t x x ≡ x
either true x = refl
either false x = refl

module _ (j : ℕ) (n : ℕ → ℕ) where
  module _ (a o : ℕ) (u : List ℕ) (us : List (List ℕ)) where
    pub held-past : length u ≤ o → held_from j n a o (u ∷ us) ≡ held_from j n (a + length u) (o - length u) us
    unfolding held_from
    held-past h = rw (le-leb _ _ h)

    pub held-here : o < length u → held_from j n a o (u ∷ us) ≡ cond (j ≤? a) (begun (n a) (take o u)) no_unit
    unfolding held_from
    held-here h = rw (lt-leb _ _ h)

  -- Of a unit that has no octet yet, nothing is held.
  pub none_yet : (a : ℕ) → cond (j ≤? a) (begun (n a) []) no_unit ≡ no_unit
  none_yet a = ap (λ (x : DataUnit). cond (j ≤? a) x no_unit) (begun-none (n a)) ∙ either (j ≤? a) no_unit

  -- Nothing is held where a batch begins, or where all that began is lost.
  pub held_none : (a o : ℕ) (us : List (List ℕ)) → a + o ≤ j → held_from j n a o us ≡ no_unit
  unfolding held_from
  held_none a o [] e = refl
  held_none a o (u ∷ us) e =
      split (length u) o (λ h. held-past a o u us h ∙ held_none (a + length u) (o - length u) us (omega arith)) (λ h. held-here a o u us h ∙ at o h e)
    where
      at : (o : ℕ) → o < length u → a + o ≤ j → cond (j ≤? a) (begun (n a) (take o u)) no_unit ≡ no_unit
      at zero h e = none_yet a
      at (suc o) h e = let q : a < j = omega arith in rw (lt-leb _ _ q)

  -- Nothing is held after the end.
  pub held-over : (a o : ℕ) (us : List (List ℕ)) → length (joined us) ≤ o → held_from j n a o us ≡ no_unit
  unfolding held_from joined
  held-over a o [] h = refl
  held-over a o (u ∷ us) h =
      let e = length-append u (joined us) in
      held-past a o u us (omega arith) ∙ held-over (a + length u) (o - length u) us (omega arith)

-- ---- units that end in a frame

module _ {ℓ} {A : Type ℓ} (start stop : ℕ) (p : ℕ → Bool) (say : ℕ → List ℕ → A) where
  -- The first of some ends before the frame, in it, or after it.
  pub first-before : (u : List ℕ) (us : List (List ℕ)) (a : ℕ) → a + length u ≤ start
      → ending start stop p say a (u ∷ us) ≡ ending start stop p say (a + length u) us
  unfolding ending
  first-before u us a h = rw (le-ltb _ _ h)

  pub first-within : (u : List ℕ) (us : List (List ℕ)) (a : ℕ) → start < a + length u → a + length u ≤ stop
      → ending start stop p say a (u ∷ us) ≡ cond (p a) (say a u ∷ []) [] ++ ending start stop p say (a + length u) us
  unfolding ending
  first-within u us a h l = rw (lt-ltb _ _ h, le-leb _ _ l)

  pass : (u : List ℕ) (us : List (List ℕ)) (a : ℕ) → stop < a + length u → ending start stop p say a (u ∷ us) ≡ ending start stop p say (a + length u) us
  unfolding ending
  pass u us a h = by (start <? (a + length u))
    where
      by : (t : Bool) → cond (t && (a + length u) ≤? stop && p a) (say a u ∷ []) [] ++ ending start stop p say (a + length u) us
          ≡ ending start stop p say (a + length u) us
      by true = rw (lt-leb _ _ h)
      by false = refl

  pub ends-later : (us : List (List ℕ)) (a : ℕ) → stop < a → ending start stop p say a us ≡ []
  unfolding ending
  ends-later [] a h = refl
  ends-later (u ∷ us) a h = pass u us a (omega arith) ∙ ends-later us (a + length u) (omega arith)

  pub first-after : (u : List ℕ) (us : List (List ℕ)) (a : ℕ) → stop < a + length u → ending start stop p say a (u ∷ us) ≡ []
  first-after u us a h = pass u us a h ∙ ends-later us (a + length u) h

  -- Where none passes, none is left.
  pub ends-none : (a : ℕ) (us : List (List ℕ)) → ((i : ℕ) → p i ≡ false) → ending start stop p say a us ≡ []
  unfolding ending
  ends-none a [] h = refl
  ends-none a (u ∷ us) h = ap₂ ◌++◌ (by (start <? (a + length u)) ((a + length u) ≤? stop)) (ends-none (a + length u) us h)
    where
      by : (t s : Bool) → cond (t && s && p a) (say a u ∷ []) [] ≡ []
      by true true = rw (h a)
      by true false = refl
      by false s = refl

  -- What is made of what is said of each.
  pub ends-map {m} : {B : Type m} (f : A → B) (a : ℕ) (us : List (List ℕ))
      → map f (ending start stop p say a us) ≡ ending start stop p (λ (i : ℕ) (u : List ℕ). f (say i u)) a us
  unfolding ending
  ends-map f a [] = refl
  ends-map f a (u ∷ us) =
      map-append f (cond (start <? (a + length u) && (a + length u) ≤? stop && p a) (say a u ∷ []) []) (ending start stop p say (a + length u) us)
      ∙ ap₂ ◌++◌ (by (start <? (a + length u) && (a + length u) ≤? stop && p a)) (ends-map f (a + length u) us)
    where
      by : (t : Bool) → map f (cond t (say a u ∷ []) []) ≡ cond t (f (say a u) ∷ []) []
      by true = refl
      by false = refl

-- ---- a lane and a frame of its batch

-- A lane that holds h makes y of a frame that has octets `start` up to `stop` of these units. Before whichever octet j they are lost, and however many
-- frames carry each: where h is what is not lost up to `start`, y is the units that end in the frame and are not lost, and what is not lost up to `stop`,
-- with this frame one more.
abbrev pub Delivers : List (List ℕ) → ℕ → ℕ → DataUnit → Yield → Type 0
Delivers us start stop h y =
    (j : ℕ) (n : ℕ → ℕ) → j ≤ start → h ≡ held_from j n 0 start us
    → y ≡ yields (ending start stop (λ (i : ℕ). j ≤? i) (spanned (onward start n)) 0 us) (held_from j (onward start n) 0 stop us)

-- After a frame up to octet `stop` the next one starts there; or it starts a batch, and that frame held the last octet.
abbrev pub Follows : List (List ℕ) → ℕ → ℕ → Type 0
Follows us stop next = (next ≡ stop) ⊎ ((next ≡ 0) × (length (joined us) ≤ stop))
