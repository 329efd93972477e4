-- There is a table, and a read gives no more units than it has room for.
use mathlib.Core.Path.{sym, ◌∙◌}
use Rattle.unpack.proofs.Carried.{handed-few, goes-whole}
use Rattle.unpack.proofs.each_frame.Out.put_out.Goals as goal

pub put_table-requires : goal.put_table-requires
put_table-requires c = (goes-whole _ _ (sym c.goes_on.ensures ∙ c.if-goes_on.true), handed-few c.requires)
