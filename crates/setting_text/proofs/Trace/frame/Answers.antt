-- One word after another.
use Rattle.rules.specs.Listing.{text}
use Rattle.setting_text.specs.Table.{follow, frame_lines}
use Rattle.setting_text.proofs.Trace.frame.Goals as goal

pub returns : goal.returns
unfolding text follow frame_lines
returns c = rw (c.direction.ensures, c.fact-2.ensures, c.fact.ensures, c.key.ensures)
