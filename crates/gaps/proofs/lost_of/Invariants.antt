-- `gaps::lost_of` meets its contract: the loop keeps what the lanes below i have dropped.
use Rattle.gaps.proofs.Gaps.{Losing}
use Rattle.gaps.proofs.lost_of.Given as goal

abbrev pub invariant-loop-i : goal.invariant-loop-i
invariant-loop-i l = Losing l.l-items l.c l.slots l.lost l.i
