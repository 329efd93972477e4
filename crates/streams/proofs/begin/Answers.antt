-- `streams::begin` meets its contract: what is behind the length is moved to the front.
use Rattle.streams.proofs.Streams.{batch-is, begun-by}
use borrow.Author.Rules.{rules}
use Rattle.streams.proofs.begin.Goals as goal

pub returns : goal.returns
returns c =
    begun-by _ _ _ _ c.within-have.ensures.prefix_len.0 c.within-have.ensures.area_value c.next_of-next.ensures
    (batch-is (λ x e. search rules) c.next_of-next.result _ c.unwrap_or.ensures c.unwrap_or_default-batch.ensures)
    c.shift.ensures c.moved.ensures c.err.ensures.value
