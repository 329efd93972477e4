-- One octet more, which is a blank or not.
use Rattle.std.proofs.Common.{sym, ◌∙◌, arith, add-one}
use Rattle.setting_text.proofs.Quotes.{end-gap, end-word, end_none}
use Rattle.setting_text.proofs.quoting.end_of.Goals as goal
use Rattle.setting_text.proofs.quoting.end_of.Goals.{then-not-is_blank, else-not-is_blank}

pub loop-i-preserved : goal.loop-i-preserved
loop-i-preserved c =
    elim c.if-not-is_blank.branch [
      | then-not-is_blank w ↦
          let e = end-word c.args.line.now c.loop-i.i c.loop-i.end c.loop-i-test.true (sym c.is_blank.ensures ∙ w.if-not-is_blank.true) in
          (omega (arith, w.end-is), rw (w.end-is, add-one) (c.loop-i.invariant.1 ∙ e))
      | else-not-is_blank w ↦
          let e = end-gap c.args.line.now c.loop-i.i c.loop-i.end c.loop-i-test.true (sym c.is_blank.ensures ∙ w.if-not-is_blank.false) in
          (omega (arith, w.end-is), rw (w.end-is, add-one) (c.loop-i.invariant.1 ∙ e))
    ]

pub returns : goal.returns
returns c = (sym (c.loop-i.invariant.1 ∙ end_none _ _ _ c.loop-i-test.false), omega arith)
