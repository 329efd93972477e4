use mathlib.Core.Path.{sym}
use Prim.Native.Nat.{◌*◌}
use mathlib.Core.Path.{◌∙◌}
use Rattle.rules.proofs.Areas.{laid_nil}
use Rattle.rows.specs.Rows.{spelled}
use Rattle.rows.proofs.Rows.{row-turn, row-all}
use borrow.Author.Rules.{rules}
use Rattle.rows.proofs.put_row.Goals as goal

pub loop-i-init : goal.loop-i-init
unfolding spelled
loop-i-init c = (search rules, sym (laid_nil _ _))

pub loop-i-preserved : goal.loop-i-preserved
loop-i-preserved c =
    let a = c.args in
    let more = row-turn a.area.now _ a.row (64 * a.k) c.loop-i.i (search rules) (search rules) c.loop-i.invariant.1 in
    (search rules, c.lay_number.ensures ∙ more)

pub returns : goal.returns
returns c =
    let a = c.args in
    row-all a.area.now _ a.row _ c.loop-i.i (search rules) c.loop-i.invariant.1
