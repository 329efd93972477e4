-- What the walk left is held or dropped as its end says, and the rest of what it makes was handed out.
use mathlib.Core.Path.{refl, ap, ◌∙◌}
use native.Mathlib.Nat.{le_of_lt}
use native.Mathlib.Omega.{arith}
use lib.ListN.{drop, length-drop}
use borrow.Author.Rules.{rules}
use Rattle.rules.specs.Areas.{laid}
use Rattle.rules.proofs.Lanes.{carries-some}
use Rattle.lanes.proofs.Hands.{begun-room, begun-went, only_counted, part_stays}
use Rattle.lanes.proofs.Walking.{rest-lent}
use Rattle.lanes.proofs.walks.walk_step.Goals as goal

pub returns-in-Finished : goal.returns-in-Finished
returns-in-Finished c =
    begun-went c.requires.3
    (rw c.in-Finished.is at c.walk_on-end.ensures.begun)
    (part_stays refl (only_counted refl refl refl (omega arith) (omega arith) (omega arith)))

pub overflow_sub-kept : goal.overflow_sub-kept
overflow_sub-kept c = let q = rw c.in-Held.is at c.walk_on-end.ensures.within
    in search rules

pub slice_bounds-lay-count : goal.slice_bounds-lay-count
slice_bounds-lay-count c =
    let q = rw c.in-Held.is at c.walk_on-end.ensures.within in search rules

pub slice_bounds-lay-start : goal.slice_bounds-lay-start
slice_bounds-lay-start c =
    le_of_lt (rw c.in-Held.is at c.walk_on-end.ensures.within)

pub returns-in-Held : goal.returns-in-Held
returns-in-Held c =
    let a = c.args in
    let from = c.in-Held.at in
    let left = rw c.in-Held.is at c.walk_on-end.ensures in
    let n = length-drop from a.zone.now in
    begun-went c.requires.3 left.begun
    (record {
      handed = only_counted refl refl refl (omega arith) (omega arith) (omega arith);
      part = c.lay.ensures ∙ ap (laid a.part.now 0) (rest-lent a.zone.now from);
      slot = rw (n, carries-some (drop from a.zone.now) (omega (arith, left.within)));
    })

pub overflow_sub-tally : goal.overflow_sub-tally
overflow_sub-tally c = let q = rw c.in-Dropped.is at c.walk_on-end.ensures.within
    in search rules

pub overflow_add-tally : goal.overflow_add-tally
overflow_add-tally c =
    let n = length-drop c.in-Dropped.at c.args.zone.now in
    let q = begun-room c.requires.3
    (rw c.in-Dropped.is at c.walk_on-end.ensures.begun) in
    search rules

pub returns-in-Dropped : goal.returns-in-Dropped
returns-in-Dropped c =
    let n = length-drop c.in-Dropped.at c.args.zone.now in
    begun-went c.requires.3
    (rw c.in-Dropped.is at c.walk_on-end.ensures.begun)
    (part_stays refl (only_counted refl refl refl (omega arith) (omega arith) (omega arith)))
