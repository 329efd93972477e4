-- `turns::end_batch` meets its contract: what is behind the batch is moved to the front.
use Rattle.turns.proofs.Turns.{over_by}
use borrow.Author.Rules.{rules}
use Rattle.turns.proofs.end_batch.Goals as goal

pub returns : goal.returns
returns c = over_by _ _ _ _ c.within-have.ensures.prefix_len.0 c.within-have.ensures.area_value c.shift.ensures
    c.work_off.ensures c.count_batch.ensures (search rules)
