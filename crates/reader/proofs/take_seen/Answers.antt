-- `reader::take_seen` meets its contract: the count is taken, and what the sight says of the lane decides.
use Rattle.reader.proofs.Verdicts.{counted-kept, on-lane, lane-kept}
use Rattle.reader.proofs.take_seen.Goals as goal

pub gap_of-g-requires : goal.gap_of-g-requires
gap_of-g-requires c =
    let o = c.requires in
    (o.sound.0, o.sound.1, o.sound.2, o.missing)

pub read_on-requires : goal.read_on-requires
read_on-requires c =
    on-lane c.args.r c.args.f.now c.args.h.now c.args.u.now c.args.c.now c.args.x c.args.missing c.requires _
    c.in-Some.is _ c.gap_of-g.ensures

pub returns-in-None : goal.returns-in-None
returns-in-None c =
    counted-kept c.args.r c.args.f.now c.args.h.now c.args.u.now c.args.c.now c.args.x c.args.missing c.requires
    c.in-None.is _ c.gap_of-g.ensures _ c.counted_of.ensures

pub returns-in-Some : goal.returns-in-Some
returns-in-Some c =
    lane-kept c.args.r c.args.f.now c.args.h.now c.args.u.now c.args.c.now c.args.x c.args.missing c.requires _
    c.in-Some.is _ c.gap_of-g.ensures _
    c.read_on.ensures
