-- `gaps::emptied_of` meets its contract: the loop keeps that the lanes below i have dropped theirs and the others are as they were.
use Rattle.gaps.proofs.Gaps.{Emptying, its}
use Rattle.gaps.proofs.emptied_of.Given as goal

abbrev pub invariant-loop-i : goal.invariant-loop-i
invariant-loop-i l = Emptying (its l.c) l.l-items l.initial.slots l.slots l.i
