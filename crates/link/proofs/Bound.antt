-- The bound of the demand is sharp: with 255 frames gone at n = 1 and all else as asked, the next frame is called a repeat, and the one after it makes a
-- packet that nobody sent.
use mathlib.Core.Path.{◌≡◌, refl, sym, ap, ◌∙◌}
use Prim.Native.Nat.{ℕ}
use native.Mathlib.Omega.{arith}
use mathlib.Core.Bool.{true, false}
use mathlib.Core.List.{List, [], ◌∷◌, ◌++◌, map}
use lib.ListN.{length, get_or, take, drop, replicate}
use Rattle.rules.specs.Worked.{each, answer}
use Rattle.link.specs.Link.{Call, Event}
use Rattle.link.specs.Demand.{kept_on, few_gone, frames_of, reads_of, Run, Exact}
use Rattle.link.specs.Examples.{a₀, d₀, told, mixed, gap_of, held, on_each, got, due_on_each, owed, mixed_lanes}
use Rattle.link.proofs.Computes.{all}
use Rattle.link.proofs.LongRuns.{meets_far}

abbrev far : List (Event Call)
far = gap_of 253

-- The first half of one packet, and the last third of another.
abbrev mixture : List ℕ
mixture = take 21 a₀ ++ drop 42 d₀

-- Of the frames of channel 0, one is kept, 255 are gone, and two are kept: as many as the bound does not allow.
pub gone_255 : kept_on 0 (frames_of mixed far) ≡ true ∷ (replicate 255 false ++ (true ∷ true ∷ []))
unfolding all
gone_255 = refl

pub not_near : few_gone 255 false 0 (kept_on 0 (frames_of mixed far)) ≡ false
unfolding all
not_near = refl

-- The frame after the gap is called a repeat.
pub called-repeat :
    each answer (reads_of mixed held far)
    ≡ (103 ∷ 0 ∷ 0 ∷ 0 ∷ 0 ∷ 0 ∷ 0 ∷ []) ∷ (104 ∷ 0 ∷ 0 ∷ 0 ∷ 0 ∷ 0 ∷ 0 ∷ []) ∷ (103 ∷ 1 ∷ 42 ∷ 0 ∷ 0 ∷ 0 ∷ 0 ∷ []) ∷ []
unfolding all
called-repeat = refl

-- The mixture is handed out, with count 1 and span 2, and nothing is due.
pub mixture-out : got mixed mixed_lanes far ≡ ((1 ∷ 2 ∷ mixture) ∷ []) ∷ [] ∷ []
unfolding all
mixture-out = refl

pub nothing-due : owed mixed mixed_lanes far ≡ [] ∷ [] ∷ []
unfolding all
nothing-due = refl

-- So the demand without the bound is false.
pub bound_needed : ((h : List ℕ) (es : List (Event Call)) → Run mixed h es → Exact mixed h es 0) → ⊥
unfolding on_each got due_on_each owed
bound_needed d =
    let first : List (List (List ℕ)) → List (List ℕ) = λ (xs : List (List (List ℕ))). get_or xs 0 [] in
    let e : (1 ∷ 2 ∷ mixture) ∷ [] ≡ [] = sym (ap first mixture-out) ∙ ap (map told) (d held far meets_far) ∙ ap first nothing-due in
    let n : ◌≡◌ {A = ℕ} 1 0 = ap length e in
    absurd (omega arith)

-- With one fewer gone the bound holds, and nothing comes out.
pub one_fewer : (few_gone 255 false 0 (kept_on 0 (frames_of mixed (gap_of 252))) ≡ true)
    × (got mixed mixed_lanes (gap_of 252) ≡ [] ∷ [] ∷ [])
unfolding all
one_fewer = (refl, refl)
