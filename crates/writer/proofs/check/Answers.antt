-- `writer::check` meets its contract: the tests are the rows', in their order.
use mathlib.Core.Path.{sym, ◌∙◌}
use borrow.Author.Tests.{lt-ltb, le-ltb, le-leb, lt-leb}
use Rattle.rules.specs.Tests.{given}
use Rattle.rules.specs.Calls.{refusal_of, write_refusals}
use Rattle.writer.specs.Lookups.{upcoming_of, late_refusals, batch_refusals}
use Rattle.writer.proofs.check.Goals as goal

pub returns-then-not-writer_ok : goal.returns-then-not-writer_ok
unfolding given write_refusals refusal_of
returns-then-not-writer_ok c = record { says = rw (sym c.writer_ok.ensures ∙ c.if-not-writer_ok.true); starts = tt }

pub returns-then-area-w : goal.returns-then-area-w
unfolding given write_refusals refusal_of
returns-then-area-w c = record {
  says = rw (sym c.writer_ok.ensures ∙ c.if-not-writer_ok.false, lt-ltb _ _ c.if-area-w.true);
  starts = tt;
}

pub returns-then-w-l : goal.returns-then-w-l
unfolding given write_refusals refusal_of
returns-then-w-l c = record {
  says = rw (sym c.writer_ok.ensures ∙ c.if-not-writer_ok.false, le-ltb _ _ c.if-area-w.false, le-leb _ _ c.if-w-l.true);
  starts = tt;
}

pub returns : goal.returns
unfolding given write_refusals batch_refusals late_refusals upcoming_of
returns c = record {
  says = c.check_batch.ensures.says
      ∙ rw (sym c.writer_ok.ensures ∙ c.if-not-writer_ok.false, le-ltb _ _ c.if-area-w.false, lt-leb _ _ c.if-w-l.false);
  starts = c.check_batch.ensures.starts;
}
