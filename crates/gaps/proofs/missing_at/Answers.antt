-- `gaps::missing_at` meets its contract: the channel's count length and what is expected there are the rule's.
use Rattle.rules.specs.Calls.{missing_at}
use Rattle.gaps.proofs.missing_at.Goals as goal

pub returns : goal.returns
unfolding missing_at
returns c = rw (c.on.ensures.octets, c.on.ensures.expect) at c.missing_before.ensures
