use mathlib.Core.Path.{refl}
use native.Mathlib.Omega.{arith}
use borrow.Author.Rules.{rules}
use Rattle.lanes.proofs.Walking.{starts, finished, given, some-left-out, skipped, kept, lost, turn-room, turn_on, turn-to}
use Rattle.lanes.proofs.Hands.{begun-units, begun-records, only_counted}
use Rattle.lanes.proofs.walks.walk_on.Goals as goal

pub loop-at-init : goal.loop-at-init
loop-at-init c = starts c.requires.0

pub overflow_add-e : goal.overflow_add-e
overflow_add-e c = let turn = given c.loop-at.invariant c.next_at.ensures
    c.in-Give.is in search rules

pub slice_bounds-hand_out-end-in-Give : goal.slice_bounds-hand_out-end-in-Give
slice_bounds-hand_out-end-in-Give c = let turn = given c.loop-at.invariant
    c.next_at.ensures c.in-Give.is in search rules

pub hand_out-tally-requires : goal.hand_out-tally-requires
hand_out-tally-requires c = (
  omega arith,
  turn-room c.loop-at.invariant c.requires.1
      (given c.loop-at.invariant c.next_at.ensures
      c.in-Give.is),
)

pub loop-at-smaller-in-Give : goal.loop-at-smaller-in-Give
loop-at-smaller-in-Give c =
    let turn = given c.loop-at.invariant c.next_at.ensures
    c.in-Give.is in omega arith

pub loop-at-preserved-in-Give : goal.loop-at-preserved-in-Give
loop-at-preserved-in-Give c =
    turn_on c.loop-at.invariant c.requires.1
    (given c.loop-at.invariant c.next_at.ensures
    c.in-Give.is) c.hand_out-tally.ensures

pub overflow_add-at : goal.overflow_add-at
overflow_add-at c = let left_out = some-left-out c.loop-at.invariant c.next_at.ensures
    c.in-Skip.is in search rules

pub run_end-e-requires : goal.run_end-e-requires
run_end-e-requires c = (some-left-out c.loop-at.invariant c.next_at.ensures
    c.in-Skip.is).1

pub overflow_sub-tally : goal.overflow_sub-tally
overflow_sub-tally c = let run = c.run_end-e.ensures in omega (arith, run.begins)

pub overflow_add-tally : goal.overflow_add-tally
overflow_add-tally c =
    let room = turn-room c.loop-at.invariant c.requires.1
    (skipped c.loop-at.invariant c.next_at.ensures c.in-Skip.is
    c.run_end-e.ensures) in
    search rules

pub loop-at-smaller : goal.loop-at-smaller
loop-at-smaller c =
    let turn = skipped c.loop-at.invariant c.next_at.ensures c.in-Skip.is
    c.run_end-e.ensures in
    omega (arith, turn.some, turn.inside)

pub loop-at-preserved : goal.loop-at-preserved
loop-at-preserved c =
    let run = c.run_end-e.ensures in
    turn-to c.loop-at.invariant c.requires.1
    (skipped c.loop-at.invariant c.next_at.ensures c.in-Skip.is run)
    (omega (arith, run.begins)) (only_counted refl refl refl (omega arith) (omega arith) (omega arith))

pub shape_of-units-then-zone-at : goal.shape_of-units-then-zone-at
shape_of-units-then-zone-at c = begun-units c.requires.1 c.loop-at.invariant.begun

pub shape_of-records-then-zone-at : goal.shape_of-records-then-zone-at
shape_of-records-then-zone-at c = begun-records c.requires.1 c.loop-at.invariant.begun

pub returns-then-zone-at : goal.returns-then-zone-at
returns-then-zone-at c = record { within = tt; begun = finished c.loop-at.invariant c.if-zone-at.true }

pub shape_of-units-in-Keep : goal.shape_of-units-in-Keep
shape_of-units-in-Keep c =
    begun-units c.requires.1 c.loop-at.invariant.begun

pub shape_of-records-in-Keep : goal.shape_of-records-in-Keep
shape_of-records-in-Keep c =
    begun-records c.requires.1 c.loop-at.invariant.begun

pub returns-in-Keep : goal.returns-in-Keep
returns-in-Keep c = record {
  within = c.if-zone-at.false;
  begun = kept
      c.loop-at.invariant c.next_at.ensures c.in-Keep.is;
}

pub shape_of-units-in-Lose : goal.shape_of-units-in-Lose
shape_of-units-in-Lose c =
    begun-units c.requires.1 c.loop-at.invariant.begun

pub shape_of-records-in-Lose : goal.shape_of-records-in-Lose
shape_of-records-in-Lose c =
    begun-records c.requires.1 c.loop-at.invariant.begun

pub returns-in-Lose : goal.returns-in-Lose
returns-in-Lose c = record {
  within = c.loop-at.invariant.inside;
  begun = lost
      c.loop-at.invariant c.next_at.ensures c.in-Lose.is;
}
