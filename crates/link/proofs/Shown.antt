-- What the theorem says of the example run, whose premises and both of whose sides compute; and two of what follows from it, of runs that
-- meet their premises.
use mathlib.Core.Path.{◌≡◌, refl}
use Prim.Native.Nat.{ℕ}
use mathlib.Core.List.{[], ◌∷◌, ◌++◌}
use lib.ListN.{take, drop}
use Rattle.rules.specs.Errors.{paired}
use Rattle.link.specs.Link.{octets_in, handed_out}
use Rattle.link.specs.Due.{due}
use Rattle.link.specs.Demand.{frames_of, reads_of, Run, Exact}
use Rattle.link.specs.Corollaries.{earlier}
use Rattle.link.specs.Examples.{packet, slim, a₀, b₀, d₀, v₂, held, calls, unharmed}
use Rattle.link.proofs.Computes.{tests, all, Orderly, ordered_is}
use Rattle.link.proofs.Premises.{meets, near}
use Rattle.link.proofs.Theorem.{demand}
use Rattle.link.proofs.Corollaries.{nothing-gone, no_more-gone}

-- ---- the demand

pub shown : (l : ℕ) → Exact paired held calls l
shown l = demand paired held calls meets near l

-- ---- nothing is gone

in_order_unharmed : Orderly paired unharmed
unfolding all tests
in_order_unharmed = refl

meets_unharmed : Run paired held unharmed
unfolding all
meets_unharmed = record { writer = refl; reader = refl; calls = ordered_is _ _ unharmed in_order_unharmed; area = refl; link = refl }

-- Two packets of one lane, two of the next, and a unit.
pub unharmed-out :
    (octets_in (handed_out 0 (reads_of paired held unharmed)) ≡ a₀ ∷ b₀ ∷ [])
    × (octets_in (handed_out 1 (reads_of paired held unharmed)) ≡ packet 10 0xF1 ∷ slim 11 0xF2 ∷ [])
    × (octets_in (handed_out 2 (reads_of paired held unharmed)) ≡ v₂ ∷ [])
unfolding all
unharmed-out = (
  nothing-gone paired held unharmed meets_unharmed refl 0 refl,
  nothing-gone paired held unharmed meets_unharmed refl 1 refl,
  nothing-gone paired held unharmed meets_unharmed refl 2 refl,
)

-- ---- no more is gone

-- After 47 events of the example run lanes 0 and 1 stand between batches, and no more of their channel is gone.
pub later-out :
    (octets_in (handed_out 0 (reads_of paired held calls)) ≡ octets_in (due 0 [] (earlier paired (take 47 calls) (drop 47 calls))) ++ (d₀ ∷ []))
    × (octets_in (handed_out 1 (reads_of paired held calls))
    ≡ octets_in (due 1 [] (earlier paired (take 47 calls) (drop 47 calls))) ++ (packet 10 0xF1 ∷ slim 11 0xF2 ∷ []))
unfolding all
later-out = (
  no_more-gone paired held (take 47 calls) (drop 47 calls) meets near 0 refl refl,
  no_more-gone paired held (take 47 calls) (drop 47 calls) meets near 1 refl refl,
)

-- With the 48th a frame is written whose copies come later: it counts as kept among the earlier ones, and would be gone without the later events.
pub late_kept :
    octets_in (due 1 [] (earlier paired (take 48 calls) (drop 48 calls)))
    ≡ octets_in (due 1 [] (frames_of paired (take 48 calls))) ++ (packet 10 0xF1 ∷ slim 11 0xF2 ∷ [])
unfolding all
late_kept = refl
