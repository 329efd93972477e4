-- The premises ask no more than they say, by computation: a long run is at the edge of each and meets all of them, so that a stronger one
-- makes a fact here false. One with as many frames gone as there are counts less one meets all but the bound.
use mathlib.Core.Path.{refl}
use Prim.Native.Nat.{zero, suc}
use native.Mathlib.Omega.{arith}
use Rattle.link.specs.Demand.{Run, Near}
use Rattle.link.specs.Examples.{held, mixed, long, gap_of}
use Rattle.link.proofs.Computes.{tests, all, Orderly, ordered_is}

-- ---- at n = 1, 511 frames gone before the first kept one, 254 between two and 300 after the last; at n = 2, 256 between two; areas longer than
-- asked for; copies over the wrap

in_order_long : Orderly mixed long
unfolding all tests
in_order_long = refl

pub meets_long : Run mixed held long
unfolding all
meets_long = record { writer = refl; reader = refl; calls = ordered_is _ _ long in_order_long; area = refl; link = refl }

pub near_long : Near mixed long
unfolding all
near_long zero h = refl
near_long (suc zero) h = refl
near_long (suc (suc c)) h = absurd (omega arith)

-- ---- at n = 1, 255 frames gone between two kept ones

in_order_far : Orderly mixed (gap_of 253)
unfolding all tests
in_order_far = refl

pub meets_far : Run mixed held (gap_of 253)
unfolding all
meets_far = record { writer = refl; reader = refl; calls = ordered_is _ _ (gap_of 253) in_order_far; area = refl; link = refl }
