use mathlib.Core.Path.{◌≡◌, sym, ◌∙◌}
use Prim.Native.Nat.{◌+◌}
use native.Mathlib.Omega.{arith}
use borrow.Author.Rules.{rules}
use Rattle.batches.proofs.Batches.{none_here, long-here, cut-here, more-here}
use Rattle.streams.proofs.Turns.{more, from-none, at-end, no-packet, too_long, no_room, one_more}
use Rattle.streams.proofs.file_batches.gather.Goals.{then-s-i-via-then-s-i, then-s-i-via-else-s-i+then-longest-n, then-s-i-via-else-s-i+else-longest-n+then-room-n}
use Rattle.streams.proofs.file_batches.gather.Goals as goal

pub loop-i-init : goal.loop-i-init
loop-i-init c = (search rules, search rules, from-none c.args.longest c.args.s.now)

pub returns-in_default : goal.returns-in_default
returns-in_default c =
    let a = c.args in
    let none = none_here a.s.now c.loop-i.i _ c.measure_at.ensures c.in_default.not-Packet in
    record { value = sym (c.loop-i.invariant.2 ∙ no-packet a.longest a.s.now c.loop-i.i none); upper_bound = search rules }

pub returns-then-s-i : goal.returns-then-s-i
returns-then-s-i c =
    let a = c.args in
    let i = c.loop-i.i in
    let ends : i + more a.longest a.s.now i ≡ i =
    elim c.then-s-i.branch [
      | then-s-i-via-then-s-i w ↦
          no-packet a.longest a.s.now i (cut-here a.s.now i _ c.measure_at.ensures _ _ c.in-Packet.is w.if-s-i.true)
      | then-s-i-via-else-s-i+then-longest-n w ↦
          too_long a.longest a.s.now i _ w.if-s-i.false (more-here a.s.now i _ c.measure_at.ensures _ _ c.in-Packet.is w.if-s-i.false)
          w.if-longest-n.true
      | then-s-i-via-else-s-i+else-longest-n+then-room-n w ↦
          no_room a.longest a.s.now i _ w.if-s-i.false (more-here a.s.now i _ c.measure_at.ensures _ _ c.in-Packet.is w.if-s-i.false)
          w.if-room-n.true
    ] in
    record { value = sym (c.loop-i.invariant.2 ∙ ends); upper_bound = search rules }

pub loop-i-smaller : goal.loop-i-smaller
loop-i-smaller c =
    let long = long-here c.args.s.now c.loop-i.i _ c.measure_at.ensures _ _ c.in-Packet.is in
    omega arith

pub loop-i-preserved : goal.loop-i-preserved
loop-i-preserved c =
    let a = c.args in
    let whole = more-here a.s.now c.loop-i.i _ c.measure_at.ensures _ _ c.in-Packet.is c.if-s-i.false in (
      search rules,
      search rules,
      c.loop-i.invariant.2 ∙ one_more a.longest a.s.now c.loop-i.i _ c.if-s-i.false whole
          c.if-longest-n.false c.if-room-n.false,
    )

pub returns : goal.returns
returns c =
    let a = c.args in
    record { value = sym (c.loop-i.invariant.2 ∙ at-end a.longest a.s.now c.loop-i.i c.loop-i-test.false); upper_bound = search rules }
