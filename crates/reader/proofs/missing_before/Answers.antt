-- `reader::missing_before` meets its contract: of a frame that was seen, the channel's missing; of any other, none.
use mathlib.Core.Path.{sym, ap, ◌∙◌}
use Rattle.reader.specs.Finds.{missing_for}
use Rattle.reader.proofs.missing_before.Goals as goal

pub missing_at-requires : goal.missing_at-requires
missing_at-requires c = rw c.in-Seen.is at c.requires

pub returns-in-Seen : goal.returns-in-Seen
returns-in-Seen c = c.missing_at.ensures ∙ sym (ap (missing_for c.args.r) c.in-Seen.is)
