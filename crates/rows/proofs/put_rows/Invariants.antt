-- `rows::put_rows` meets its contract. Before row i the first i rows stand in the area.
use Rattle.std.proofs.Common.{ℕ, ◌*◌, ◌<◌, ◌≡◌, List, length}
use Rattle.rules.specs.Areas.{laid}
use Rattle.rows.specs.States.{rows}
use Rattle.rows.proofs.put_rows.Given as goal

abbrev pub invariant-loop-i : goal.invariant-loop-i
invariant-loop-i g l =
    (length l.area ≡ length l.initial.area)
    × ((f : ℕ → List ℕ) → ((i : ℕ) → length (f i) ≡ 8) → ((i : ℕ) (r : List ℕ) → i < 8 → goal.F-post g l.row i r → r ≡ f i)
    → l.area ≡ laid l.initial.area (64 * l.k) (rows f l.i))
