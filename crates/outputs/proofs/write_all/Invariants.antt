-- `outputs::write_all` ends: each write that goes well takes an octet.
use Rattle.std.proofs.Common.{length, ◌-◌, ◌≤◌}
use Rattle.outputs.proofs.write_all.Given as goal

abbrev pub invariant-loop-done : goal.invariant-loop-done
invariant-loop-done l = l.done ≤ length l.octets

abbrev pub decreases-loop-done : goal.decreases-loop-done
decreases-loop-done l = length l.octets - l.done
