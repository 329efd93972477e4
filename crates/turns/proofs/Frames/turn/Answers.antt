-- `turns::Frames::turn` meets its contract: with the batch at hand, with the next one, or with none.
use Rattle.turns.proofs.Turns.{turned-begun, turned_none}
use Rattle.turns.proofs.Frames.turn.Goals as goal

pub returns-then-stream-eq0 : goal.returns-then-stream-eq0
returns-then-stream-eq0 c = turned_none _ _ _ _ _ _ _ c.within-have.result c.if-s-ne0.false c.within-have.ensures.area_value
    c.begin-begun.ensures c.if-stream-eq0.true
    c.end_with.ensures

pub returns-else-stream-eq0 : goal.returns-else-stream-eq0
returns-else-stream-eq0 c = turned-begun _ _ _ _ _ _ _ c.within-have.result
    c.if-s-ne0.false c.within-have.ensures.area_value
    c.begin-begun.ensures c.if-stream-eq0.false
    c.work-else-stream-eq0.ensures
