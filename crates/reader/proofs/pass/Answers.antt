-- `reader::pass` meets its contract: what was found is shown, and then it is taken, or left where the decision says so.
use Rattle.reader.proofs.Passing.{left-passes, taken-passes}
use Rattle.reader.proofs.pass.Goals as goal

pub returns-then-left : goal.returns-then-left
returns-then-left c =
    let a = c.args in
    left-passes a.r a.frame.now _ c.find-found.ensures.0 _ c.shown-looked.ensures a.without _
    c.left_out-left.ensures a.held.now a.units.now a.records.now c.if-left.true _ c.passed_over-taken.ensures

pub take_found-taken-requires : goal.take_found-taken-requires
take_found-taken-requires c = c.find-found.ensures

pub returns-else-left : goal.returns-else-left
returns-else-left c =
    let a = c.args in
    taken-passes a.r a.frame.now _ c.find-found.ensures.0 _ c.shown-looked.ensures a.without _
    c.left_out-left.ensures a.held.now a.units.now a.records.now c.if-left.false _ _ _ _ c.take_found-taken.ensures
