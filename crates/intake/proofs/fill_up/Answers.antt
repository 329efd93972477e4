-- From read to read.
use Rattle.intake.proofs.Windows.{refilled-none, refilled-then}
use Rattle.intake.proofs.fill_up.Goals as goal

pub loop-window-init : goal.loop-window-init
loop-window-init c = refilled-none _ _ c.requires

pub loop-window-preserved : goal.loop-window-preserved
loop-window-preserved c = refilled-then c.loop-window.invariant c.refill-window.ensures c.loop-window.auto.area
