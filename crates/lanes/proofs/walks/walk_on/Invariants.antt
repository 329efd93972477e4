-- The invariant: what the whole walk makes is what was handed out so far and then what a walk from `at` makes. A turn hands out or leaves
-- out the packet at the front, which has an octet at least, so the measure is what is left of the zone. Where the walk ends, the rest is the
-- rule's own.
use Prim.Native.Nat.{◌-◌}
use lib.ListN.{length}
use Rattle.lanes.proofs.Walking.{Walking}
use Rattle.lanes.proofs.walks.walk_on.Given as goal

abbrev pub invariant-loop-at : goal.invariant-loop-at
invariant-loop-at l = Walking l.terms.longest l.zone l.from l.terms.info l.initial.tally l.initial.units l.initial.records l.at l.tally l.units l.records

abbrev pub decreases-loop-at : goal.decreases-loop-at
decreases-loop-at l = length l.zone - l.at
