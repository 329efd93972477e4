-- The next word, its number, what is heard then, and the next place.
use Rattle.setting_text.specs.Table.{item}
use Rattle.setting_text.proofs.Steps.{seen_step}
use Rattle.setting_text.proofs.Trace.word.Goals as goal

pub returns : goal.returns
unfolding item
returns c = rw (c.move_on.ensures, c.note.ensures) (seen_step _ _ _ _ _ c.next_word-w.ensures c.worth-n.ensures)
