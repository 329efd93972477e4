-- Line after line.
use Rattle.std.proofs.Common.{◌*◌, ◌+◌, rules, arith, refl}
use Rattle.unit_table.specs.Rows.{rows_text}
use Rattle.unit_table.proofs.Parts.{wrote_row}
use Rattle.unpack_text.proofs.Writes.{wrote_none, wrote_next, wrote_all}
use Rattle.unit_table.proofs.put_rows.Goals as goal

pub loop-i-init : goal.loop-i-init
loop-i-init c = (refl, wrote_none _ _ _)

pub loop-i-preserved : goal.loop-i-preserved
loop-i-preserved c =
    let l = c.loop-i in
    let w = wrote_row c.row_of.ensures c.put_row-at.ensures in
    (search rules, wrote_next _ l.i (174 * (l.i + 1)) l.invariant.1 w (omega (arith, c.requires.0, c.requires.1)) (omega arith))

pub returns : goal.returns
unfolding rows_text
returns c = wrote_all _ _ c.loop-i.invariant.1 (omega arith) (omega arith)
