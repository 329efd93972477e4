-- `turns::Frames::work` meets its contract: the batch goes on, or is over.
use Rattle.turns.proofs.Turns.{worked-on, worked-over}
use Rattle.turns.proofs.Frames.work.Goals as goal

pub returns-then-goes_on : goal.returns-then-goes_on
returns-then-goes_on c = worked-on _ _ _ _ _ _ c.within-n.result c.course_on-d.result
    c.within-n.ensures.area_value
    c.course_on-d.ensures c.goes_on.ensures c.if-goes_on.true

pub returns-else-goes_on : goal.returns-else-goes_on
returns-else-goes_on c = worked-over _ _ _ _ _ _ c.within-n.result c.course_on-d.result c.within-n.ensures.area_value
    c.course_on-d.ensures
    c.goes_on.ensures c.if-goes_on.false c.end_batch.ensures
