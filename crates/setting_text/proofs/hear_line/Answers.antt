-- One part of the table after another.
use Rattle.setting_text.specs.Texts.{words}
use Rattle.setting_text.specs.Places.{seen}
use Rattle.setting_text.proofs.Table.{hears}
use Rattle.setting_text.proofs.hear_line.Goals as goal

pub returns : goal.returns
unfolding seen
returns c =
    hears (words c.args.line.now) (record { line = c.args.line; at = 0; now = c.fresh.result; best = c.fresh-2.result }) c.frame.result c.parts.result
    c.channel.result c.lanes.result (rw (c.fresh.ensures, c.fresh-2.ensures)) c.frame.ensures c.parts.ensures c.channel.ensures c.lanes.ensures
