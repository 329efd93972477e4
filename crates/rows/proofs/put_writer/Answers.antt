-- `rows::put_writer` meets its contract. A writer's state is laid as its three parts, counts for expected counts, next frame numbers for
-- what is held.
use Rattle.std.proofs.Common.{rules, ◌*◌, ◌∙◌, ◌≡◌, ap, List}
use Rattle.rules.specs.Areas.{laid}
use Rattle.rows.specs.declared.Tail.{Tail}
use Rattle.rows.specs.States.{state_octets, expects_of, tails_of_next, writer_octets}
use Rattle.rows.proofs.Turns.{slots_are}
use Rattle.rows.proofs.put_writer.Goals as goal

pub returns : goal.returns
unfolding writer_octets expects_of tails_of_next
returns c =
    let a = c.args in
    let y : c.map-tails.result ≡ tails_of_next a.w.next =
    slots_are _ _ _ c.map-tails.ensures.items.long (λ i d l. let m = c.map-tails.ensures.items.at i 0 d l in search rules) in
    c.put_state.ensures ∙ ap (λ (ys : List Tail). laid a.area.now (64 * a.k) (state_octets a.w.setting (expects_of a.w.counts) ys)) y
