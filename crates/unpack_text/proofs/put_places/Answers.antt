-- The lanes, then the channels: as many as the setting has.
use Rattle.std.proofs.Common.{rules, arith}
use Rattle.unpack_text.specs.Lines.{places_text}
use Rattle.unpack_text.proofs.Writes.{wrote_then, lanes_first, channels_first}
use Rattle.unpack_text.proofs.put_places.Goals as goal

pub returns : goal.returns
unfolding places_text
returns c =
    let r = c.args.r.setting in
    rw (← lanes_first c.args.t.lanes r.numbered (search rules), ← channels_first r.channels r.listed c.args.t.channels (search rules))
    (wrote_then c.put_lanes-at.ensures c.put_channels.ensures (omega (arith, c.requires.2)))
