-- A frame that is not whole ends it; after a whole one it is as the writes went.
use Rattle.unpack.specs.Stages.{goes_on}
use Rattle.unpack.proofs.each_frame.goes_on.Goals as goal

pub returns-then-whole : goal.returns-then-whole
unfolding goes_on
returns-then-whole c = rw c.if-whole.true c.is_ok.ensures.value
