-- The text is what is handed over, and after a whole frame the listing goes on.
use Rattle.list_worked.proofs.Carried.{carried}
use Rattle.list_worked.proofs.Texts.{cut}
use Rattle.list_worked.proofs.list_came.Goals as goal

pub print-requires : goal.print-requires
print-requires c = cut c.list_frame-p.ensures.text

pub returns-then-frame-eq32 : goal.returns-then-frame-eq32
returns-then-frame-eq32 c =
    let a = c.args in
    let m = a.areas.now in
    carried a.k a.r m.held.now m.units.now m.records.now _ _ _ _ _ _ _ _ _ c.requires.0 c.if-frame-eq32.true c.list_frame-p.ensures
