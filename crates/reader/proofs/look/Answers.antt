-- `reader::look` meets its contract: what was found, shown, is the rule's look.
use Rattle.rules.proofs.Promises.{look-by}
use Rattle.reader.proofs.Passing.{is-look}
use Rattle.reader.proofs.look.Goals as goal

pub returns : goal.returns
returns c =
    let a = c.args in
    look-by a.r a.frame.now _ (is-look a.r a.frame.now _ c.find.ensures.0 _ c.shown.ensures)
