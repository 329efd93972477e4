-- `writer::write` meets its contract: where no refusal applies the frame is laid and the state moves on; otherwise nothing changes.
use Rattle.rules.proofs.States.{writer-ok}
use Rattle.writer.specs.Lookups.{upcoming_of}
use Rattle.writer.proofs.Lookups.{ready, accepted, written_is, refused_is}
use Rattle.writer.proofs.write.Goals as goal

pub upcoming_of-x-requires : goal.upcoming_of-x-requires
upcoming_of-x-requires c =
    let a = accepted _ _ _ _ _ _ c.check.result c.check.ensures.says _ c.in-Ok.is in
    (writer-ok _ a.good, a.numbered)

pub put_frame-requires : goal.put_frame-requires
unfolding upcoming_of
put_frame-requires c =
    let a = accepted _ _ _ _ _ _ c.check.result c.check.ensures.says _ c.in-Ok.is in
    rw c.upcoming_of-x.ensures (ready _ _ _ _ _ _ a, rw c.in-Ok.is at c.check.ensures.starts)

pub after-requires : goal.after-requires
after-requires c =
    let a = accepted _ _ _ _ _ _ c.check.result c.check.ensures.says _ c.in-Ok.is in
    (writer-ok _ a.good, a.numbered, c.upcoming_of-x.ensures, a.below)

pub returns-in-Ok : goal.returns-in-Ok
returns-in-Ok c =
    written_is _ _ _ _ _ _ c.check.result c.check.ensures.says _ c.in-Ok.is c.upcoming_of-x.result _ _
    c.upcoming_of-x.ensures c.after.ensures c.put_frame.ensures

pub returns-in-Err : goal.returns-in-Err
returns-in-Err c =
    refused_is _ _ _ _ _ _ c.check.result c.check.ensures.says _ c.in-Err.is
