-- What was put are the lines of all units.
use Rattle.unpack_text.proofs.Cuts.{wrote-cut, wrote_front}
use borrow.Author.Rules.{rules}
use Rattle.unpack.proofs.each_frame.Out.put_lines.Goals as goal

pub slice_bounds-hand_rows-end-2 : goal.slice_bounds-hand_rows-end-2
slice_bounds-hand_rows-end-2 c = wrote-cut c.put_rows-end.ensures (search rules)

pub hand_rows-requires : goal.hand_rows-requires
hand_rows-requires c = wrote_front c.put_rows-end.ensures
