use Rattle.std.proofs.Common.{rules, arith, ◌∙◌, sym}
use Rattle.rules.proofs.Areas.{laid_nil}
use Rattle.rows.specs.States.{rows}
use Rattle.rows.proofs.Rows.{rows-turn, rows_all}
use Rattle.rows.proofs.put_rows.Goals as goal

pub loop-i-init : goal.loop-i-init
unfolding rows
loop-i-init g c = (search rules, λ f long says. sym (laid_nil _ _))

pub loop-i-preserved : goal.loop-i-preserved
loop-i-preserved g c = (
  search rules,
  λ f long says. c.put_row.ensures
      ∙ rows-turn f c.args.area.now _ _ c.args.k c.loop-i.i long (search rules) (c.loop-i.invariant.1 f long says) (says _ _ (search rules) (search rules)),
)

pub returns : goal.returns
returns g c = λ f long says. rows_all _ _ _ _ _ (omega arith) (c.loop-i.invariant.1 f long says)
