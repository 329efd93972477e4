-- `writer::frames::put_zone` meets its contract: the piece is laid, and the fill behind it.
use mathlib.Core.Path.{ap, ◌∙◌}
use Prim.Native.Nat.{ℕ, ◌+◌, ◌-◌}
use native.Mathlib.Omega.{arith}
use mathlib.Core.List.{List}
use lib.ListN.{length, replicate}
use Rattle.rules.specs.Areas.{laid}
use Rattle.rules.proofs.Areas.{laid-laid}
use Rattle.writer.proofs.frames.put_zone.Goals as goal

pub returns : goal.returns
returns c =
    let a = c.args in
    c.lay_fill.ensures ∙ ap (λ (x : List ℕ). laid x (a.from + length a.piece.now) (replicate (a.z - length a.piece.now) a.x))
    c.lay.ensures
    ∙ laid-laid a.area.now a.from a.piece.now (omega arith) (replicate (a.z - length a.piece.now) a.x)
