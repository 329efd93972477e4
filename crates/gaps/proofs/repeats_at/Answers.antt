-- `gaps::repeats_at` meets its contract: the channel's count length and what is expected there are the rule's.
use Rattle.rules.specs.Calls.{repeats_at}
use Rattle.gaps.proofs.repeats_at.Goals as goal

pub returns : goal.returns
unfolding repeats_at
returns c = rw (c.on.ensures.octets, c.on.ensures.expect) at c.repeats.ensures
