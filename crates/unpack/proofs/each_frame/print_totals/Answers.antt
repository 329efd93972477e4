-- A valid state has at most eight lanes and eight channels. The text of the totals is what was put.
use Rattle.rules.proofs.Valid.{good_reader}
use Rattle.unpack_text.proofs.Cuts.{wrote-cut, wrote_front}
use borrow.Author.Rules.{rules}
use Rattle.unpack.proofs.each_frame.print_totals.Goals as goal

pub put_totals-end-requires : goal.put_totals-end-requires
put_totals-end-requires c = let s = (good_reader _ c.requires).setting in (s.listed, s.numbered, search rules)

pub slice_bounds-hand_totals-end : goal.slice_bounds-hand_totals-end
slice_bounds-hand_totals-end c = wrote-cut c.put_totals-end.ensures (search rules)

pub hand_totals-requires : goal.hand_totals-requires
hand_totals-requires c = wrote_front c.put_totals-end.ensures
