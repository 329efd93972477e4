-- `writer::after` meets its contract: the channel's count and the lane's number are stored, each at its place.
use native.Mathlib.Omega.{arith}
use Rattle.writer.specs.Lookups.{upcoming_of}
use Rattle.rules.specs.Writing.{frames}
use Rattle.writer.proofs.Lookups.{counting, after_is}
use Rattle.writer.proofs.after.Goals as goal

pub number_after-k-requires : goal.number_after-k-requires
unfolding upcoming_of frames
number_after-k-requires c = let p = c.requires in rw (c.frames_of-n.ensures, p.2) p.3

pub overflow_add-t : goal.overflow_add-t
overflow_add-t c =
    let p = c.requires in
    let q = counting _ _ _ _ p.0 p.1 p.2 c.modulus-m.ensures in omega (arith, q.small)

pub nonzero_rem-t : goal.nonzero_rem-t
nonzero_rem-t c =
    let p = c.requires in
    (counting _ _ _ _ p.0 p.1 p.2 c.modulus-m.ensures).some

pub offset_bounds-t-p : goal.offset_bounds-t-p
offset_bounds-t-p c =
    let p = c.requires in
    let q = counting _ _ _ _ p.0 p.1 p.2 c.modulus-m.ensures in omega (arith, q.place)

pub bounds-t-p : goal.bounds-t-p
bounds-t-p c =
    let p = c.requires in
    (counting _ _ _ _ p.0 p.1 p.2 c.modulus-m.ensures).place

pub offset_bounds-t-l : goal.offset_bounds-t-l
offset_bounds-t-l c =
    let p = c.requires in
    let q = counting _ _ _ _ p.0 p.1 p.2 c.modulus-m.ensures in omega (arith, q.eight)

pub bounds-t-l : goal.bounds-t-l
bounds-t-l c =
    let p = c.requires in
    (counting _ _ _ _ p.0 p.1 p.2 c.modulus-m.ensures).eight

pub returns : goal.returns
returns c =
    after_is _ _ c.args.batch.now _ _ _ _ c.requires.0 c.requires.1 c.requires.2 c.modulus-m.ensures
    c.frames_of-n.ensures c.number_after-k.ensures
