-- `gaps::lost_of` meets its contract: lane by lane, as the rule goes.
use Rattle.std.proofs.Common.{rules, arith, ◌<◌, ◌≡◌, ◌∙◌, length, add-zero}
use Rattle.std.proofs.Math.ListN.{length-take}
use borrow.Author.Tests.{eq-eqb, ne_eqb}
use Rattle.gaps.proofs.Gaps.{lost-one, lost-all}
use Rattle.gaps.proofs.lost_of.Goals as goal
use Rattle.gaps.proofs.lost_of.Goals.{then-l-c, else-l-c}

pub loop-i-init : goal.loop-i-init
loop-i-init c = record { whole = search rules; small = omega arith }

pub loop-i-preserved : goal.loop-i-preserved
loop-i-preserved c =
    let eight : length c.args.slots ≡ 8 = search rules in
    let below : c.loop-i.i < length c.args.slots = omega (arith, length-take c.args.s.numbered c.args.s.lanes) in
    let one = lost-one _ _ _ _ _ c.loop-i-test.true below c.loop-i.invariant.whole in
    elim c.if-l-c.branch [
      | then-l-c w ↦ record { whole = one ∙ rw (eq-eqb _ _ w.if-l-c.true, w.lost-is); small = omega arith }
      | else-l-c w ↦ record { whole = one ∙ rw (ne_eqb _ _ w.if-l-c.false, w.lost-is, add-zero); small = omega arith }
    ]

pub returns : goal.returns
returns c = lost-all _ _ _ _ _ c.loop-i-test.false c.loop-i.invariant.whole
