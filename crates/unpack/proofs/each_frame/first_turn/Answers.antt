-- A fresh state, and no totals.
use Rattle.unpack.specs.Stages.{first_turn}
use Rattle.rules.proofs.Promises.{reader-starts-is}
use Rattle.unpack.proofs.each_frame.first_turn.Goals as goal

pub returns : goal.returns
unfolding first_turn
returns c = rw (reader-starts-is _ _ c.set_up.ensures, c.no_totals.ensures)
