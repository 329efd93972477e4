-- Line after line.
use Rattle.std.proofs.Common.{◌*◌, ◌+◌, rules, arith, refl}
use Rattle.unpack_text.specs.Lines.{lane_lines}
use Rattle.unpack_text.proofs.Writes.{wrote_none, wrote_next, wrote_all}
use Rattle.unpack_text.proofs.put_lanes.Goals as goal

pub loop-i-init : goal.loop-i-init
loop-i-init c = (refl, wrote_none _ _ _)

pub loop-i-preserved : goal.loop-i-preserved
loop-i-preserved c =
    let l = c.loop-i in
    (search rules, wrote_next _ l.i (109 * (l.i + 1)) l.invariant.1 c.put_lane-at.ensures (omega (arith, c.requires.0)) (omega arith))

pub returns : goal.returns
unfolding lane_lines
returns c = wrote_all _ 872 c.loop-i.invariant.1 (omega arith) (omega (arith, c.requires.0))
