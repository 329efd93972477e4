-- One word further, until there are none before it.
use Rattle.std.proofs.Common.{◌∙◌}
use Rattle.setting_text.proofs.Quotes.{word-further, word-here, part_same}
use Rattle.setting_text.proofs.quoting.word_at.Goals as goal

pub loop-k-preserved : goal.loop-k-preserved
loop-k-preserved c = c.loop-k.invariant ∙ word-further _ _ _ _ c.next_word-at.ensures _ _ c.loop-k-test.true

pub returns : goal.returns
returns c = part_same _ _ _ _ _ c.loop-k.invariant (word-here _ _ _ _ c.next_word.ensures _ _ c.loop-k-test.false)
