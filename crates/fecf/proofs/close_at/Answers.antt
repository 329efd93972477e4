-- `fecf::close_at` meets its contract: the part lent comes back closed.
use Rattle.fecf.proofs.Turns.{close_part}
use borrow.Author.Rules.{rules}
use Rattle.fecf.proofs.close_at.Goals as goal

pub returns : goal.returns
returns c =
    let a = c.args in
    close_part a.u a.from a.area.now a.octets.now _ (search rules) c.close.ensures
