use mathlib.Core.Path.{refl}
use native.Mathlib.Numerals.{add-one}
use borrow.Author.Rules.{rules}
use Rattle.console.specs.Shown.{shown}
use Rattle.console.proofs.Shown.{turn}
use Rattle.console.proofs.put_name.Goals as goal

pub loop-i-init : goal.loop-i-init
unfolding shown
loop-i-init c = refl

pub loop-i-preserved : goal.loop-i-preserved
loop-i-preserved c =
    let l = c.loop-i in
    rw add-one (turn l.area c.args.name.now l.i _ (search rules) (search rules) c.plain.ensures l.invariant)
