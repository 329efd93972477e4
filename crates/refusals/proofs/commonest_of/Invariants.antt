-- Of the numbers passed.
use Prim.Native.Nat.{◌<◌}
use mathlib.Core.Path.{◌≡◌}
use Rattle.refusals.specs.Counts.{commonest}
use Rattle.refusals.proofs.commonest_of.Given as goal

abbrev pub invariant-loop-i : goal.invariant-loop-i
invariant-loop-i l = (l.best ≡ commonest l.counts l.i) × (l.best < 13)
