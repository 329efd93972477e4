-- The frame is looked at and taken, which is the read, for no virtual channel is left out; then the opening and the line, one after another.
use mathlib.Core.Path.{◌∙◌}
use native.Mathlib.Omega.{arith}
use Rattle.rules.proofs.Looks.{pass_all}
use Rattle.list_worked.proofs.Texts.{length-opening, listed}
use Rattle.list_worked.proofs.list_frame.Goals as goal

pub put_line-end-requires : goal.put_line-end-requires
put_line-end-requires c =
    omega (arith, length-opening c.args.k, c.put_opening-at.ensures.ends, c.requires.1)

pub returns : goal.returns
returns c =
    let a = c.args in
    let m = a.areas.now in
    let p = c.pass-p in
    listed a.k _ p.result.taken _ _ _ a.area.now _ _ _ _ c.requires.1
    (p.ensures.got ∙ pass_all 63 a.r a.frame.now m.held.now m.units.now m.records.now)
    c.put_opening-at.ensures c.put_line-end.ensures
