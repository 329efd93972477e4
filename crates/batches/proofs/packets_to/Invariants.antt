-- The invariant: what is asked of the octets from `from` on is what is asked of those from octet i on. A whole packet takes octets from
-- both sides; a rest with no whole packet at its front fails the test.
use Prim.Native.Nat.{◌-◌}
use lib.ListN.{length}
use Rattle.batches.proofs.Batches.{Passing}
use Rattle.batches.proofs.packets_to.Given as goal

abbrev pub invariant-loop-i : goal.invariant-loop-i
invariant-loop-i l = Passing l.longest l.batch l.from l.to l.i

abbrev pub decreases-loop-i : goal.decreases-loop-i
decreases-loop-i l = length l.batch - l.i
