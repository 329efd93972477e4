-- Blanks are passed over, and the word goes to the next blank.
use Rattle.std.proofs.Common.{arith, length-take, length-drop}
use Rattle.setting_text.proofs.Steps.{word_at, word_none}
use Rattle.setting_text.proofs.next_word.Goals as goal

pub returns-then-n-at : goal.returns-then-n-at
returns-then-n-at c = word_none _ _ c.if-n-at.true

pub returns : goal.returns
returns c =
    let h = simp (length-take, length-drop) at c.until_stop.ensures.within in
    let k = simp (length-take, length-drop) at c.until_stop-2.ensures.within in
    word_at _ _ _ _ c.until_stop.ensures.counts c.until_stop-2.ensures.counts (omega arith)
