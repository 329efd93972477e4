-- `writer::check_batch` meets its contract: what was looked up is the lane's, so the batch rule is the row's.
use Rattle.std.specs.Prelude.{Ok}
use Rattle.rules.specs.Calls.{refusal_of}
use Rattle.writer.proofs.Lookups.{begins-small, judged-kept, judged_broken, judged-late}
use Rattle.writer.proofs.check_batch.Goals as goal

pub overflow_mul-x : goal.overflow_mul-x
overflow_mul-x c =
    record { fits = begins-small _ _ _ c.requires.0 c.requires.1 c.upcoming_of-x.ensures }

pub returns-in_default : goal.returns-in_default
returns-in_default c =
    let a = c.args in
    judged_broken a.w a.l a.batch.now a.insert.now a.ocf.now c.upcoming_of-x.result c.upcoming_of-x.ensures
    (rw c.in_default.is at c.batch_start.ensures)

pub returns-in_err-check_parts : goal.returns-in_err-check_parts
unfolding refusal_of
returns-in_err-check_parts c =
    let a = c.args in
    judged-late a.w a.l a.batch.now a.insert.now a.ocf.now c.upcoming_of-x.result c.upcoming_of-x.ensures _
    (rw c.in-Some.is at c.batch_start.ensures) _ _ c.from_residual.ensures.1 c.in_err-check_parts.ensures

pub returns : goal.returns
unfolding refusal_of
returns c =
    let a = c.args in
    let x = c.upcoming_of-x in
    let k = judged-kept a.w a.l a.batch.now a.insert.now a.ocf.now x.result x.ensures _ (Ok tt)
    (rw c.in-Some.is at c.batch_start.ensures) c.in_ok-check_parts.ensures in
    record { says = k.0; starts = k.1 }
