-- `writer::number_after` meets its contract: the number is 0 after the last frame and one more before.
use mathlib.Core.Path.{◌≡◌}
use native.Mathlib.Omega.{arith}
use borrow.Author.Tests.{eq-eqb}
use Rattle.rules.specs.Writing.{number_after}
use Rattle.writer.proofs.number_after.Goals as goal

pub returns-then-i-n : goal.returns-then-i-n
unfolding number_after
returns-then-i-n c =
    let a = c.args in
    let zero : number_after a.i a.n ≡ 0 = rw (eq-eqb _ _ c.if-i-n.true) in
    omega (arith, zero)
