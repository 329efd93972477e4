-- What was read stands behind what the area held, which is as it was.
use Rattle.std.proofs.Common.{length, ◌-◌}
use Rattle.intake.specs.Windows.{Refilled}
use Rattle.intake.proofs.fill_up.Given as goal

abbrev pub invariant-loop-window : goal.invariant-loop-window
invariant-loop-window l = Refilled l.initial.window l.initial.area l.window l.area

abbrev pub decreases-loop-window : goal.decreases-loop-window
decreases-loop-window l = length l.initial.area - l.window.have
