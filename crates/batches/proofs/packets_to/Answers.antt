use Rattle.std.proofs.Common.{arith, refl}
use Rattle.batches.proofs.Batches.{none_here, long-here, cut-here, more-here, passed, passed_none, passed-above, passed-more}
use Rattle.batches.proofs.packets_to.Goals.{then-batch-i-via-then-batch-i, then-batch-i-via-else-batch-i+then-longest-n}
use Rattle.batches.proofs.packets_to.Goals as goal

pub loop-i-init : goal.loop-i-init
loop-i-init c = record { inside = c.requires.0; stands = refl; starts = refl }

pub returns-in_default : goal.returns-in_default
returns-in_default c =
    let none = none_here c.args.batch.now c.loop-i.i _ c.measure_at.ensures c.in_default.not-Packet in
    passed_none c.loop-i.invariant (omega (arith, c.loop-i-test.true, c.requires.1)) none

pub returns-then-batch-i : goal.returns-then-batch-i
returns-then-batch-i c =
    let b = c.args.batch.now in
    elim c.then-batch-i.branch [
      | then-batch-i-via-then-batch-i w ↦
          let cut = cut-here b c.loop-i.i _ c.measure_at.ensures _ _ c.in-Packet.is w.if-batch-i.true in
          passed_none c.loop-i.invariant (omega (arith, c.loop-i-test.true, c.requires.1)) cut
      | then-batch-i-via-else-batch-i+then-longest-n w ↦
          let more = more-here b c.loop-i.i _ c.measure_at.ensures _ _ c.in-Packet.is w.if-batch-i.false in
          passed-above c.loop-i.invariant _ w.if-batch-i.false more w.if-longest-n.true
    ]

pub loop-i-smaller : goal.loop-i-smaller
loop-i-smaller c =
    let long = long-here c.args.batch.now c.loop-i.i _ c.measure_at.ensures _ _ c.in-Packet.is in
    omega arith

pub loop-i-preserved : goal.loop-i-preserved
loop-i-preserved c =
    let more = more-here c.args.batch.now c.loop-i.i _ c.measure_at.ensures _ _ c.in-Packet.is c.if-batch-i.false in
    passed-more c.loop-i.invariant _ c.if-batch-i.false more c.loop-i-test.true c.if-longest-n.false

pub returns : goal.returns
returns c = passed c.loop-i.invariant c.loop-i-test.false
