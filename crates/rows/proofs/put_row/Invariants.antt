-- `rows::put_row` meets its contract. Before number i the first i numbers stand in the area.
use Prim.Native.Nat.{◌*◌}
use mathlib.Core.Path.{◌≡◌}
use lib.ListN.{length, take}
use Rattle.rules.specs.Areas.{laid}
use Rattle.rows.specs.Rows.{spelled}
use Rattle.rows.proofs.put_row.Given as goal

abbrev pub invariant-loop-i : goal.invariant-loop-i
invariant-loop-i l = (length l.area ≡ length l.initial.area) × (l.area ≡ laid l.initial.area (64 * l.k) (spelled (take l.i l.row)))
