-- A part of the line is one of the text.
use Rattle.setting_text.specs.Quotes.{quoted}
use Rattle.setting_text.proofs.Quotes.{part_in}
use Rattle.setting_text.proofs.quoting.quote_of.Goals as goal

pub returns : goal.returns
unfolding quoted
returns c =
    let l = c.line_at-l.ensures in
    rw l.octets (part_in _ _ _ _ _ _ c.quote_at-q.ensures l.forward l.within)
