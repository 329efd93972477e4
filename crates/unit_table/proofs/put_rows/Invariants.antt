-- The lines of the units passed stand one after another, and each has at most 174 octets.
use Prim.Native.Nat.{ℕ, ◌*◌}
use mathlib.Core.Path.{◌≡◌}
use lib.ListN.{length}
use Rattle.unpack_text.specs.Lines.{Wrote, firsts}
use Rattle.unit_table.specs.Rows.{row_of, row_text}
use Rattle.unit_table.proofs.put_rows.Given as goal

abbrev pub invariant-loop-i : goal.invariant-loop-i
invariant-loop-i l = (length l.area ≡ length l.initial.area) × Wrote (174 * l.i) (firsts (λ (j : ℕ). row_text
    (row_of l.g l.units l.records j)) l.i) l.initial.area 0 l.area l.at
