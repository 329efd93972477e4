-- The premises of the demand are met by the example run's end, which is short and so soon computed.
use mathlib.Core.Path.{refl}
use Prim.Native.Nat.{zero, suc}
use native.Mathlib.Omega.{arith}
use Rattle.rules.specs.Errors.{paired}
use Rattle.link.specs.Demand.{Run, Near}
use Rattle.link.specs.Examples.{held, closing}
use Rattle.link.proofs.Computes.{tests, all, Orderly, ordered_is}

in_order : Orderly paired closing
unfolding all tests
in_order = refl

pub meets : Run paired held closing
unfolding all
meets = record { writer = refl; reader = refl; calls = ordered_is _ _ closing in_order; area = refl; link = refl }

pub near : Near paired closing
unfolding all
near zero h = refl
near (suc zero) h = refl
near (suc (suc c)) h = absurd (omega arith)
