-- `unpack::each_frame::print_title`: the title is what was put.
use Rattle.unpack_text.proofs.Cuts.{wrote-cut, wrote_front}
use borrow.Author.Rules.{rules}
use Rattle.unpack.proofs.each_frame.print_title.Goals as goal

pub slice_bounds-hand_title-end : goal.slice_bounds-hand_title-end
slice_bounds-hand_title-end c = wrote-cut c.put_title-end.ensures (search rules)

pub hand_title-requires : goal.hand_title-requires
hand_title-requires c = wrote_front c.put_title-end.ensures
