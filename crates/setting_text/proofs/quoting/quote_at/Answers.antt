-- A part of what stands before the comment is one of the line.
use Rattle.std.proofs.Common.{sym}
use Rattle.setting_text.specs.Texts.{said}
use Rattle.setting_text.proofs.Quotes.{part-front}
use Rattle.setting_text.proofs.quoting.quote_at.Goals as goal

pub returns : goal.returns
unfolding said
returns c = let u = c.until_stop-n.ensures in rw (sym u.counts) (part-front _ _ _ _ _ c.quote_in.ensures u.within)
