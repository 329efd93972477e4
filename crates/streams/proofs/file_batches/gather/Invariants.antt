-- The invariant: what is gathered in all is i octets, and what of the rest fits into the room that they leave.
use mathlib.Core.Path.{◌≡◌}
use Prim.Native.Nat.{◌+◌, ◌-◌, ◌≤◌}
use lib.ListN.{length}
use Rattle.streams.specs.FileBatches.{gathered}
use Rattle.streams.proofs.Turns.{more}
use Rattle.rules.specs.Areas.{batch_size}
use Rattle.streams.proofs.file_batches.gather.Given as goal

abbrev pub invariant-loop-i : goal.invariant-loop-i
invariant-loop-i l = (l.i ≤ length l.s) × (l.i ≤ batch_size) × (gathered l.longest l.s ≡ l.i + more l.longest l.s l.i)

abbrev pub decreases-loop-i : goal.decreases-loop-i
decreases-loop-i l = length l.s - l.i
