-- `turns::Frames::take_turn` meets its contract: a turn, or out.
use Rattle.turns.specs.Turns.{moves}
use Rattle.turns.proofs.Frames.take_turn.Goals as goal

pub returns-then-x : goal.returns-then-x
returns-then-x c = moves c.if-x.true c.read_turn-step.ensures c.after_turn.ensures
