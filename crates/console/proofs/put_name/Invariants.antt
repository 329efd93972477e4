-- `console::put_name` meets its contract. The first i octets stand in the area.
use mathlib.Core.Path.{◌≡◌}
use lib.ListN.{take}
use Rattle.console.specs.Shown.{shown}
use Rattle.console.proofs.put_name.Given as goal

abbrev pub invariant-loop-i : goal.invariant-loop-i
invariant-loop-i l = take l.i l.area ≡ shown (take l.i l.name)
