-- `writer::upcoming_of` meets its contract: a valid state's lane and its channel stand in the first eight slots.
use native.Mathlib.Omega.{arith}
use Rattle.writer.specs.Lookups.{upcoming_of}
use Rattle.writer.proofs.Lookups.{slots}
use Rattle.writer.proofs.upcoming_of.Goals as goal

pub offset_bounds-s-l : goal.offset_bounds-s-l
offset_bounds-s-l c = let q = slots _ _ c.requires.0 c.requires.1 in omega (arith, q.eight)

pub bounds-s-l : goal.bounds-s-l
bounds-s-l c = (slots _ _ c.requires.0 c.requires.1).eight

pub offset_bounds-s-place : goal.offset_bounds-s-place
offset_bounds-s-place c = let q = slots _ _ c.requires.0 c.requires.1 in omega (arith, q.place)

pub bounds-s-place : goal.bounds-s-place
bounds-s-place c = (slots _ _ c.requires.0 c.requires.1).place

pub offset_bounds-w-place : goal.offset_bounds-w-place
offset_bounds-w-place c =
    let p = c.requires in
    let q = slots _ _ p.0 p.1 in omega (arith, q.place)

pub bounds-w-place : goal.bounds-w-place
bounds-w-place c =
    let p = c.requires in
    (slots _ _ p.0 p.1).place

pub offset_bounds-w-l : goal.offset_bounds-w-l
offset_bounds-w-l c =
    let p = c.requires in
    let q = slots _ _ p.0 p.1 in omega (arith, q.eight)

pub bounds-w-l : goal.bounds-w-l
bounds-w-l c =
    let p = c.requires in
    (slots _ _ p.0 p.1).eight

pub returns : goal.returns
unfolding upcoming_of
returns c = rw c.zone_of.ensures
