-- `octets::spell` meets its contract: what is left of the number is spelled by the octets not written yet.
use Rattle.octets.proofs.Turns.{Spelled}
use Rattle.octets.proofs.spell.Given as goal

abbrev pub invariant-loop-i : goal.invariant-loop-i
invariant-loop-i l = Spelled l.initial.dst l.x l.dst l.v l.i
