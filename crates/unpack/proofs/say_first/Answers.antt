-- What was put is what is said.
use Rattle.unpack_text.proofs.Cuts.{wrote-cut, wrote_front}
use borrow.Author.Rules.{rules}
use Rattle.unpack.proofs.say_first.Goals as goal

pub slice_bounds-hand_first-end : goal.slice_bounds-hand_first-end
slice_bounds-hand_first-end c = wrote-cut c.put_first-end.ensures (search rules)

pub hand_first-requires : goal.hand_first-requires
hand_first-requires c = wrote_front c.put_first-end.ensures
