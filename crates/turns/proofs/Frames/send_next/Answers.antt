-- `turns::Frames::send_next` meets its contract: a write that was done, and one that was refused.
use Rattle.rules.proofs.Promises.{write-is}
use Rattle.turns.specs.Courses.{area_before, one_more}
use Rattle.turns.proofs.Turns.{sent-done, sent-refused, frame-by}
use Rattle.turns.proofs.Frames.send_next.Goals as goal

pub hand-fault-requires : goal.hand-fault-requires
unfolding area_before
hand-fault-requires c = frame-by c.args.c _ _ _ _
    (write-is _ _ _ _ _ _ _ c.write-t.ensures)
    c.within-end.result c.within-end.ensures.area_value

pub returns-in-Ok : goal.returns-in-Ok
unfolding area_before one_more
returns-in-Ok c = sent-done _ _ _ _ _ (write-is _ _ _ _ _ _ _ c.write-t.ensures) _ _ c.in-Ok.is
    c.hand-fault.ensures c.saturating_add.ensures

pub returns-in-Err : goal.returns-in-Err
unfolding area_before
returns-in-Err c = sent-refused _ _ _ _ _ (write-is _ _ _ _ _ _ _ c.write-t.ensures) _ _ c.number.ensures c.in-Err.is
