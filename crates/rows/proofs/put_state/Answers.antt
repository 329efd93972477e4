-- `rows::put_state` meets its contract. Front, channels and lanes are laid one after another.
use Rattle.std.proofs.Common.{get_or}
use Rattle.rules.specs.Settings.{no_channel, no_lane, expect_on}
use Rattle.rows.specs.States.{no_tail, channel_row, lane_row, channel_rows, lane_rows}
use Rattle.rows.proofs.Rows.{channel-long, lane-long, state-laid}
use Rattle.rows.proofs.put_state.Goals as goal

pub returns : goal.returns
unfolding channel_rows lane_rows
returns c =
    let a = c.args in
    state-laid a.area.now _ _ _ _ a.k a.s _ _ c.requires c.front_row.ensures
    c.put_row.ensures
    (c.put_rows.ensures (λ i. channel_row (get_or a.s.channels i no_channel) (expect_on a.x i)) (λ i. channel-long _ _) (λ i r l p. p))
    (c.put_rows-2.ensures (λ i. lane_row (get_or a.s.lanes i no_lane) (get_or a.y i no_tail)) (λ i. lane-long _ _) (λ i r l p. p))
