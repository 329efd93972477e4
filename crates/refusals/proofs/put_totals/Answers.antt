-- Lanes and channels, refusals, and the last line.
use Rattle.refusals.specs.Words.{totals_text}
use Rattle.unpack_text.proofs.Writes.{wrote-three}
use Rattle.refusals.proofs.put_totals.Goals as goal

pub returns : goal.returns
unfolding totals_text
returns c =
    wrote-three c.put_places-at.ensures c.put_refusals-at.ensures
    c.put_last.ensures c.requires.2
