-- What was put is what is said.
use Rattle.unpack_text.proofs.Cuts.{wrote-cut, wrote_front}
use borrow.Author.Rules.{rules}
use Rattle.unpack.proofs.say_common.Goals as goal

pub slice_bounds-hand_common-end : goal.slice_bounds-hand_common-end
slice_bounds-hand_common-end c = wrote-cut c.put_common-end.ensures (search rules)

pub hand_common-requires : goal.hand_common-requires
hand_common-requires c = wrote_front c.put_common-end.ensures
