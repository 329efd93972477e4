-- `rows::put_reader` meets its contract. A reader's state is laid as its three parts, what is kept of a lane behind it.
use Rattle.std.proofs.Common.{rules, ◌*◌, ◌∙◌, ◌≡◌, ap, List}
use Rattle.rules.specs.Areas.{laid}
use Rattle.rules.specs.Settings.{no_slot}
use Rattle.rows.specs.declared.Tail.{Tail}
use Rattle.rows.specs.States.{state_octets, tails_of, reader_octets}
use Rattle.rows.proofs.Turns.{slots_are}
use Rattle.rows.proofs.put_reader.Goals as goal

pub returns : goal.returns
unfolding reader_octets tails_of
returns c =
    let a = c.args in
    let y : c.map.result ≡ tails_of a.r.slots =
    slots_are _ _ _ c.map.ensures.items.long (λ i d l. let m = c.map.ensures.items.at i no_slot d l in search rules) in
    c.put_state.ensures ∙ ap (λ (ys : List Tail). laid a.area.now (64 * a.k) (state_octets a.r.setting a.r.expects ys)) y
