-- One more number, by one test.
use Rattle.std.proofs.Common.{arith, sym}
use Rattle.refusals.proofs.Laws.{commonest-none, commonest-more, commonest-same}
use Rattle.refusals.proofs.commonest_of.Goals as goal
use Rattle.refusals.proofs.commonest_of.Goals.{then-counts-best, else-counts-best}

pub loop-i-init : goal.loop-i-init
loop-i-init c = (sym (commonest-none _), omega arith)

pub loop-i-preserved : goal.loop-i-preserved
loop-i-preserved c =
    let l = c.loop-i in
    elim c.if-counts-best.branch [
      | then-counts-best w ↦ rw w.best-is (sym (commonest-more _ l.i l.invariant.0 w.if-counts-best.true), omega arith)
      | else-counts-best w ↦ rw w.best-is (sym (commonest-same _ l.i l.invariant.0 w.if-counts-best.false), l.invariant.1)
    ]
