-- A line goes to the next line feed, or to the text's end.
use Rattle.std.proofs.Common.{rules, length-take, length-drop}
use Rattle.setting_text.proofs.Quotes.{line-none, line-next}
use Rattle.setting_text.proofs.quoting.next_line.Goals as goal

pub returns-then-n-at : goal.returns-then-n-at
returns-then-n-at c = line-none _ _ c.if-n-at.true

pub returns : goal.returns
returns c =
    let h = simp (length-take, length-drop) at c.until_stop-size.ensures.within in
    line-next _ _ _ c.until_stop-size.ensures.counts (search rules)
