-- `judge::check_holds` meets its contract: the part before the last two octets is checked, and the two are read as a number.
use lib.ListN.{length, take, drop, length-drop}
use lib.Seq.{take_all}
use lib.Dec.{eqb}
use native.Mathlib.Omega.{arith}
use mathlib.Core.Path.{◌≡◌, sym, ap, ◌∙◌}
use borrow.Author.Tests.{not-true, not-false}
use Prim.Native.Nat.{◌-◌}
use Rattle.rules.specs.Octets.{num}
use Rattle.rules.specs.Frames.{check_holds}
use Rattle.judge.proofs.check_holds.Goals as goal

pub returns-then-not-s : goal.returns-then-not-s
unfolding check_holds
returns-then-not-s c = rw (not-true _ c.if-not-s.true)

pub returns : goal.returns
unfolding check_holds
returns c =
    let f = c.args.frame.now in
    let n = length f - 2 in
    let t : take (length f - n) (drop n f) ≡ drop n f = take_all (length f - n) (drop n f) (omega (arith, length-drop n f)) in
    rw (not-false _ c.if-not-s.false, sym c.check_of.ensures) (ap (eqb c.check_of.result) (c.exact.ensures ∙ ap num t))
