-- The title.
use Rattle.rules.specs.Listing.{text}
use Rattle.unit_table.specs.Rows.{table_title}
use Rattle.unpack_text.proofs.Writes.{wrote_text}
use Rattle.unit_table.proofs.put_title.Goals as goal

pub returns : goal.returns
unfolding table_title text
returns c = wrote_text c.put_text.ensures
