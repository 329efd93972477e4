-- Before a later line nothing is put.
use Rattle.list_worked.proofs.Texts.{put-later}
use borrow.Author.Rules.{rules}
use Rattle.list_worked.proofs.put_opening.Goals as goal

pub returns-else-k-eq0 : goal.returns-else-k-eq0
returns-else-k-eq0 c = put-later c.args.k c.args.area.now (search rules)
