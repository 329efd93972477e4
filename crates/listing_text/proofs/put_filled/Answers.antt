-- A mark takes the next number, any other octet is put as it is.
use Rattle.std.proofs.Common.{rules, ◌∙◌}
use Rattle.listing_text.proofs.Turns.{next-number, mark-room, mark-next, plain-room, plain-next, filled-end}
use Rattle.listing_text.proofs.put_filled.Goals as goal
use Rattle.listing_text.proofs.put_filled.Goals.{then-x-eq35, else-x-eq35}

pub put_decimal-at-requires : goal.put_decimal-at-requires
put_decimal-at-requires c =
    let n = next-number _ _ _ c.next.ensures.steps in
    mark-room c.args.pattern.now c.loop-x.x-index (search rules) _ c.loop-x.invariant c.if-x-eq35.true
    (c.unwrap_or-v.ensures ∙ rw c.copied.ensures n.0)

pub put_octet-at-requires : goal.put_octet-at-requires
put_octet-at-requires c = plain-room c.args.pattern.now c.loop-x.x-index (search rules) _ c.loop-x.invariant c.if-x-eq35.false

pub loop-x-preserved : goal.loop-x-preserved
loop-x-preserved c =
    elim c.if-x-eq35.branch [
      | then-x-eq35 w ↦
          let n = next-number _ _ _ w.next.ensures.steps in
          rw (w.left-is, w.area-is, w.at-is, n.1)
          (mark-next c.args.pattern.now c.loop-x.x-index (search rules) _ c.loop-x.invariant w.if-x-eq35.true
          (w.unwrap_or-v.ensures ∙ rw w.copied.ensures n.0) w.put_decimal-at.ensures)
      | else-x-eq35 w ↦
          rw (w.left-is, w.area-is, w.at-is)
          (plain-next c.args.pattern.now c.loop-x.x-index (search rules) _ c.loop-x.invariant w.if-x-eq35.false w.put_octet-at.ensures)
    ]

pub returns : goal.returns
returns c = filled-end c.args.pattern.now _ c.loop-x.x-index (search rules) c.loop-x.invariant
