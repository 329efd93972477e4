-- What a frame gave fits the areas and is what is handed out.
use mathlib.Core.Path.{sym}
use lib.Seq.{length-take-le}
use Rattle.unpack.proofs.Carried.{handed}
use Rattle.unpack_text.proofs.Cuts.{wrote-cut}
use borrow.Author.Rules.{rules}
use Rattle.unpack.proofs.each_frame.Out.give_out.Goals as goal

pub slice_bounds-put_out-end : goal.slice_bounds-put_out-end
slice_bounds-put_out-end c = wrote-cut c.put_line-end.ensures (search rules)

pub slice_bounds-put_out-end-2 : goal.slice_bounds-put_out-end-2
slice_bounds-put_out-end-2 c =
    sym (length-take-le _ _ c.requires.room.0)

pub slice_bounds-put_out-end-3 : goal.slice_bounds-put_out-end-3
slice_bounds-put_out-end-3 c = sym (length-take-le _ _ (search rules))

pub put_out-requires : goal.put_out-requires
put_out-requires c =
    handed c.requires c.put_line-end.ensures
