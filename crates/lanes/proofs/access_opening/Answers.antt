-- With a pointer the portion ends at the unit's last octet, and the rest of the zone is fill; with none it is all of the zone.
use mathlib.Core.Bool.{true}
use native.Mathlib.Omega.{arith}
use borrow.Author.Rules.{rules}
use Rattle.rules.specs.Reading.{access_lane}
use Rattle.lanes.proofs.Parts.{portion-opens, portion-nowhere}
use Rattle.lanes.proofs.access_opening.Goals as goal

pub overflow_add-e : goal.overflow_add-e
overflow_add-e c = let q = rw c.in-Some.is at c.requires in search rules

pub overflow_sub-n : goal.overflow_sub-n
overflow_sub-n c = let q = rw c.in-Some.is at c.requires in search rules

pub returns-in-Some : goal.returns-in-Some
unfolding access_lane
returns-in-Some c = λ held zone kept f.
    let q = rw c.in-Some.is at c.requires in
    rw (c.portion_opening.ensures, c.in-Some.is, ← f) (portion-opens _ kept zone true _ _ (omega arith))

pub returns-in-None : goal.returns-in-None
returns-in-None c = λ held zone kept f. rw (c.portion_opening-in-None.ensures, c.in-None.is, ← f) (portion-nowhere _ kept zone _)
