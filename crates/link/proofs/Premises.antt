-- The premises of the demand can be met, by computation: by a run with lanes in any mixture, frames gone with refused octets in their
-- places, and the last batch unfinished.
use mathlib.Core.Path.{refl}
use Prim.Native.Nat.{zero, suc}
use native.Mathlib.Omega.{arith}
use Rattle.rules.specs.Errors.{paired}
use Rattle.link.specs.Demand.{Run, Near}
use Rattle.link.specs.Examples.{held, calls}
use Rattle.link.proofs.Computes.{tests, all, Orderly, ordered_is}

in_order : Orderly paired calls
unfolding all tests
in_order = refl

pub meets : Run paired held calls
unfolding all
meets = record { writer = refl; reader = refl; calls = ordered_is _ _ calls in_order; area = refl; link = refl }

pub near : Near paired calls
unfolding all
near zero h = refl
near (suc zero) h = refl
near (suc (suc c)) h = absurd (omega arith)
