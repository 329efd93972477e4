-- The code's tests are the definition's.
use mathlib.Core.Path.{sym}
use Rattle.words.proofs.LaneNames.{lane-short, lane-other, lane_low, lane-is, lane-high}
use Rattle.words.proofs.pack_start.lane_named.Goals as goal
use Rattle.words.proofs.pack_start.lane_named.Goals.{then-s-lt2-via-then-s-lt2, then-s-lt2-via-else-s-lt2+then-s-ne61, then-s-lt2-via-else-s-lt2+else-s-ne61+then-s-lt48}

pub returns-then-s-lt2 : goal.returns-then-s-lt2
returns-then-s-lt2 c =
    let n = c.args.numbered in
    let s = c.args.s.now in
    elim c.then-s-lt2.branch [
      | then-s-lt2-via-then-s-lt2 w ↦ sym (lane-short n s w.if-s-lt2.true)
      | then-s-lt2-via-else-s-lt2+then-s-ne61 w ↦ sym (lane-other n s w.if-s-ne61.true)
      | then-s-lt2-via-else-s-lt2+else-s-ne61+then-s-lt48 w ↦ sym (lane_low n s w.if-s-lt48.true)
    ]

pub returns-then-l-numbered : goal.returns-then-l-numbered
returns-then-l-numbered c = sym (lane-is c.args.numbered c.args.s.now c.if-s-ne61.false c.if-s-lt48.false c.if-l-numbered.true)

pub returns-else-l-numbered : goal.returns-else-l-numbered
returns-else-l-numbered c = sym (lane-high c.args.numbered c.args.s.now c.if-s-ne61.false c.if-s-lt48.false c.if-l-numbered.false)
