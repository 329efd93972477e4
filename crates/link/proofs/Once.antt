-- What is due is well defined: each unit of a batch ends in exactly one of the batch's frames, and they end in the order in which
-- they stand. So a batch that is worked off with no frame gone owes all its units, each once.
use mathlib.Core.Path.{◌≡◌, refl, sym, ap, ap₂, ◌∙◌}
use Prim.Native.Nat.{ℕ, zero, suc, ◌+◌, ◌*◌, ◌≤◌, ◌<◌}
use native.Mathlib.Nat.{zero-mul}
use native.Mathlib.Omega.{arith}
use mathlib.Core.Bool.{Bool, true}
use mathlib.Core.List.{List, [], ◌∷◌, ◌++◌}
use lib.ListN.{length, length-append}
use Rattle.rules.specs.declared.Kind.{Kind}
use Rattle.rules.specs.Areas.{joined}
use Rattle.rules.specs.Writing.{batch_ok, units_of, frames}
use Rattle.rules.proofs.Tests.{split}
use Rattle.link.specs.Due.{ending}
use Rattle.link.proofs.Spans.{Filled, first-before, first-within, ends-later, first-after}
use Rattle.link.proofs.Batches.{Units, units, frame-all}

abbrev any : ℕ → Bool
any i = true

-- Of each unit, its octets.
abbrev itself : ℕ → List ℕ → List ℕ
itself a u = u

-- The units that end in a frame.
abbrev pub ends_in : ℕ → ℕ → ℕ → List (List ℕ) → List (List ℕ)
ends_in start stop a us = ending start stop any itself a us

-- Those of two frames, one behind the other.
pub ends_on : (from start stop : ℕ) → from ≤ start → start ≤ stop → (us : List (List ℕ)) (a : ℕ)
    → ends_in from start a us ++ ends_in start stop a us ≡ ends_in from stop a us
unfolding ending
ends_on from start stop g h [] a = refl
ends_on from start stop g h (u ∷ us) a = by (ends_on from start stop g h us (a + length u))
  where
    by : ends_in from start (a + length u) us ++ ends_in start stop (a + length u) us ≡ ends_in from stop (a + length u) us
        → ends_in from start a (u ∷ us) ++ ends_in start stop a (u ∷ us) ≡ ends_in from stop a (u ∷ us)
    by ih =
        split (a + length u) start
        (λ k.
        split (a + length u) from
        (λ l.
        ap₂ ◌++◌ (first-before from start any itself u us a l) (first-before start stop any itself u us a k) ∙ ih
        ∙ sym (first-before from stop any itself u us a l))
        (λ l.
        ap₂ ◌++◌ (first-within from start any itself u us a l k) (first-before start stop any itself u us a k)
        ∙ ap (λ (vs : List (List ℕ)). u ∷ vs) ih ∙ sym (first-within from stop any itself u us a l (omega arith))))
        (λ k.
        split (a + length u) stop
        (λ l.
        ap₂ ◌++◌ (first-after from start any itself u us a k) (first-within start stop any itself u us a k l)
        ∙ ap (λ (vs : List (List ℕ)). u ∷ (vs ++ ends_in start stop (a + length u) us)) (sym (ends-later from start any itself us (a + length u) k))
        ∙ ap (λ (vs : List (List ℕ)). u ∷ vs) ih ∙ sym (first-within from stop any itself u us a (omega arith) l))
        (λ l.
        ap₂ ◌++◌ (first-after from start any itself u us a k) (first-after start stop any itself u us a l)
        ∙ sym (first-after from stop any itself u us a l)))

-- None in a frame without octets, and all in one with all octets.
pub ends_nowhere : (n : ℕ) (us : List (List ℕ)) (a : ℕ) → ends_in n n a us ≡ []
unfolding ending
ends_nowhere n [] a = refl
ends_nowhere n (u ∷ us) a =
    split (a + length u) n (λ h. first-before n n any itself u us a h ∙ ends_nowhere n us (a + length u)) (λ h. first-after n n any itself u us a h)

pub ends-all : (stop : ℕ) (us : List (List ℕ)) (a : ℕ) → Filled us → a + length (joined us) ≤ stop → ends_in 0 stop a us ≡ us
unfolding ending joined
ends-all stop [] a f h = refl
ends-all stop (u ∷ us) a f h =
    let l = length-append u (joined us) in
    first-within 0 stop any itself u us a (omega (arith, f.0)) (omega (arith, l))
    ∙ ap (λ (vs : List (List ℕ)). u ∷ vs) (ends-all stop us (a + length u) f.1 (omega (arith, l)))

-- ---- frames of z octets

-- The units that end in the first n frames, frame by frame.
unfoldable pub ended : ℕ → ℕ → List (List ℕ) → List (List ℕ)
ended z zero us = []
ended z (suc n) us = ended z n us ++ ends_in (n * z) (n * z + z) 0 us

ended_to : (z n : ℕ) (us : List (List ℕ)) → ended z n us ≡ ends_in 0 (n * z) 0 us
unfolding ended
ended_to z zero us = sym (ap (λ (i : ℕ). ends_in 0 i 0 us) (zero-mul z) ∙ ends_nowhere 0 us 0)
ended_to z (suc n) us =
    let q : n * z + z ≡ suc n * z = omega arith in
    ap (λ (vs : List (List ℕ)). vs ++ ends_in (n * z) (n * z + z) 0 us) (ended_to z n us) ∙ ends_on 0 (n * z) (n * z + z) (omega arith) (omega arith) us 0
    ∙ ap (λ (i : ℕ). ends_in 0 i 0 us) q

-- Of a batch: its units end in its frames, each once and in order.
pub once : (kind : Kind) (longest z : ℕ) → 0 < z → (b : List ℕ) → batch_ok kind longest b ≡ true → ended z (frames z b) (units_of kind b) ≡ units_of kind b
once kind longest z zp b ok =
    let u : Units kind b = units kind longest b ok in
    ended_to z (frames z b) (units_of kind b)
    ∙ ends-all (frames z b * z) (units_of kind b) 0 u.filled (rw u.joins (omega (arith, frame-all z zp b)))
