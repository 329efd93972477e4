-- `gaps::emptied_of` meets its contract: lane by lane, as the rule goes.
use Rattle.std.proofs.Common.{rules, arith, ◌<◌, ◌≡◌, length}
use Rattle.std.proofs.Math.ListN.{length-take}
use borrow.Author.Tests.{eq-eqb, ne_eqb}
use Rattle.gaps.proofs.Gaps.{emptying-none, emptying-drops, emptying-keeps, emptying-all}
use Rattle.gaps.proofs.emptied_of.Goals as goal
use Rattle.gaps.proofs.emptied_of.Goals.{then-l-c, else-l-c}

pub loop-i-init : goal.loop-i-init
loop-i-init c = emptying-none _ _ _

pub loop-i-preserved : goal.loop-i-preserved
loop-i-preserved c =
    let eight : length c.args.slots ≡ 8 = search rules in
    let below : c.loop-i.i < length c.loop-i.slots = omega (arith, length-take c.args.s.numbered c.args.s.lanes) in
    elim c.if-l-c.branch [
      | then-l-c w ↦ rw (w.slots-is, w.no_slot.ensures) (emptying-drops _ _ _ _ _ c.loop-i-test.true below (eq-eqb _ _ w.if-l-c.true) c.loop-i.invariant)
      | else-l-c w ↦ rw w.slots-is (emptying-keeps _ _ _ _ _ c.loop-i-test.true below (ne_eqb _ _ w.if-l-c.false) c.loop-i.invariant)
    ]

pub returns : goal.returns
returns c = emptying-all _ _ _ _ _ c.loop-i-test.false c.loop-i.invariant
