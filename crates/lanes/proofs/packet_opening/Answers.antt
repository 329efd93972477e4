-- With a pointer the lead is the octets before it, and packets follow; with none it is all of the zone.
use mathlib.Core.Path.{sym}
use native.Mathlib.Omega.{arith}
use lib.Seq.{length-take-le}
use Rattle.lanes.proofs.Parts.{lead-at, lead-nowhere}
use Rattle.lanes.proofs.packet_opening.Goals as goal

pub slice_bounds-lead_of-end : goal.slice_bounds-lead_of-end
slice_bounds-lead_of-end c =
    let q = rw c.in-Some.is at c.requires.1 in sym (length-take-le _ _ (omega arith))

pub returns-in-Some : goal.returns-in-Some
returns-in-Some c =
    let q = rw c.in-Some.is at c.requires.1 in
    rw c.in-Some.is (lead-at _ c.requires.0 _ (omega arith) c.lead_of-fate.ensures)

pub returns-in-None : goal.returns-in-None
returns-in-None c = rw c.in-None.is (lead-nowhere _ c.requires.0 _ c.lead_of-fate-in-None.ensures)
