-- In each case the octets go where the rule puts them: out as one unit, into the count of idle or dropped ones, or behind the held ones,
-- which stand at the front of the lane's part already. These octets of the frame add a frame to the span where there are any.
use mathlib.Core.Path.{refl, sym, ◌∙◌}
use native.Mathlib.Omega.{arith}
use borrow.Author.Rules.{rules}
use Rattle.rules.proofs.Lanes.{carries-few}
use Rattle.lanes.proofs.Hands.{held-length, only_counted, part_stays, follow-length, follow-laid}
use Rattle.lanes.proofs.units.settle.Goals as goal

pub slice_bounds-hand_out-end-in-Hand : goal.slice_bounds-hand_out-end-in-Hand
slice_bounds-hand_out-end-in-Hand c =
    sym (held-length c.requires)

pub hand_out-tally-requires : goal.hand_out-tally-requires
hand_out-tally-requires c =
    let ready = c.requires in
    (rw (held-length ready) ready.within, rw c.in-Hand.is at ready.room)

pub returns-in-Hand : goal.returns-in-Hand
returns-in-Hand c =
    rw c.in-Hand.is (part_stays refl c.hand_out-tally.ensures)

pub returns-in-Blank : goal.returns-in-Blank
returns-in-Blank c =
    let n = follow-length c.requires in
    rw c.in-Blank.is (part_stays refl (only_counted refl refl refl (omega arith) (omega arith) (omega arith)))

pub lay-requires : goal.lay-requires
lay-requires c =
    let ready = c.requires in
    let n = follow-length ready in
    let held = rw c.in-Hold.is at ready.held in
    omega arith

pub overflow_cast-kept-in-Hold : goal.overflow_cast-kept-in-Hold
overflow_cast-kept-in-Hold c =
    let few = carries-few c.args.next.now in search rules

pub overflow_add-kept : goal.overflow_add-kept
overflow_add-kept c =
    let few = carries-few c.args.next.now in search rules

pub returns-in-Hold : goal.returns-in-Hold
returns-in-Hold c =
    let ready = c.requires in
    rw c.in-Hold.is
    (record {
      handed = only_counted refl refl refl (omega arith) (omega arith) (omega arith);
      part = c.lay.ensures ∙ follow-laid ready;
      slot = rw (follow-length ready, c.carried.ensures);
    })

pub returns-in-Drop : goal.returns-in-Drop
returns-in-Drop c =
    let n = follow-length c.requires in
    rw c.in-Drop.is (part_stays refl (only_counted refl refl refl (omega arith) (omega arith) (omega arith)))
