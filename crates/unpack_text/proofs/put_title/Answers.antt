-- The title's text is its octets.
use Rattle.rules.specs.Listing.{text}
use Rattle.unpack_text.specs.Lines.{title}
use Rattle.unpack_text.proofs.Writes.{wrote_text}
use Rattle.unpack_text.proofs.put_title.Goals as goal

pub returns : goal.returns
unfolding title text
returns c = wrote_text c.put_text.ensures
