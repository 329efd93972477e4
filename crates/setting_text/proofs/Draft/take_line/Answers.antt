-- The part before the comment is held against the table.
use Rattle.std.proofs.Common.{sym}
use Rattle.setting_text.specs.Texts.{said}
use Rattle.setting_text.specs.Facts.{take_line}
use Rattle.setting_text.proofs.Table.{heard-sound}
use Rattle.setting_text.proofs.Draft.take_line.Goals as goal

pub take_heard-requires : goal.take_heard-requires
take_heard-requires c = (c.requires, rw c.hear_line.ensures (heard-sound _))

pub returns : goal.returns
unfolding take_line said
returns c = rw (sym c.until_stop-n.ensures.counts, sym c.hear_line.ensures) c.take_heard.ensures
