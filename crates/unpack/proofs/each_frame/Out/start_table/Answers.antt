-- What was put is the title.
use Rattle.unpack_text.proofs.Cuts.{wrote-cut, wrote_front}
use borrow.Author.Rules.{rules}
use Rattle.unpack.proofs.each_frame.Out.start_table.Goals as goal

pub slice_bounds-hand_table-end : goal.slice_bounds-hand_table-end
slice_bounds-hand_table-end c = wrote-cut c.put_title-end.ensures (search rules)

pub hand_table-requires : goal.hand_table-requires
hand_table-requires c = wrote_front c.put_title-end.ensures
