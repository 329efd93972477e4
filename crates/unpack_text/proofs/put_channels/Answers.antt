-- Line after line.
use Rattle.std.proofs.Common.{ℕ, ◌*◌, ◌+◌, length, [], ◌∷◌, rules, arith, refl, length-append}
use Rattle.std.proofs.lemmas.Slice.Zip.{zip_turn, zip_end}
use Rattle.rules.specs.Settings.{no_channel}
use Rattle.unpack_text.specs.Totals.{no_channel_tally}
use Rattle.unpack_text.specs.Lines.{channel_lines}
use Rattle.unpack_text.proofs.Writes.{wrote_none, wrote_next, wrote_all}
use Rattle.unpack_text.proofs.put_channels.Goals as goal

pub loop-c-init : goal.loop-c-init
loop-c-init c = (refl, wrote_none _ _ _)

pub loop-c-preserved : goal.loop-c-preserved
loop-c-preserved c =
    let t = zip_turn c.args.channels.now c.args.ts.now _ _ _ c.next.new.self c.next.result (search rules) (search rules)
    c.loop-c.yielded_by _ c.in-Some.is c.next.ensures.steps in
    let l = c.loop-c in
    let i : ℕ = length l.yielded in
    rw (length-append l.yielded (_ ∷ [])) (
      search rules,
      wrote_next _ i (115 * (i + 1)) {m = 115} l.invariant.1 (rw (← t.2 no_channel, ← t.3 no_channel_tally) c.put_channel-at.ensures)
          (omega (arith, t.0, c.requires.0, c.requires.2)) (omega arith),
    )

pub returns : goal.returns
unfolding channel_lines
returns c =
    let e = zip_end c.args.channels.now c.args.ts.now _ _ _ c.next.new.self c.next.result (search rules) (search rules)
    c.loop-c.yielded_by c.in-None.is c.next.ensures.steps in
    wrote_all _ 920 c.loop-c.invariant.1 (omega (arith, e, c.requires.1)) (omega (arith, e, c.requires.0))
