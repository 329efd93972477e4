-- The next line is taken, or refused; or all were taken.
use Rattle.std.proofs.Common.{rules, tests}
use Rattle.std.proofs.lemmas.Iterator.Consumers.{YieldsList-from_enumerate, YieldsList-turn, YieldsList-end}
use Rattle.std.proofs.lemmas.Iterator.Splits.{YieldsList-from_slice_split}
use Rattle.std.proofs.lemmas.List.{length_push}
use Rattle.rules.specs.Tests.{◌=?◌}
use Rattle.setting_text.specs.Texts.{lines}
use Rattle.setting_text.proofs.Gathers.{nothing-room, line-room, turn, refused_here, all_taken}
use Rattle.setting_text.proofs.take_lines.Goals as goal

pub loop-k-init : goal.loop-k-init
loop-k-init c = rw c.nothing-d.ensures (record { goes = search rules; room = nothing-room })

pub returns-in-Err : goal.returns-in-Err
unfolding lines
returns-in-Err c =
    let t = YieldsList-turn
    (YieldsList-from_enumerate
    (YieldsList-from_slice_split _ (λ x. x =? 10) c.args.octets.now (cc) (cc) (cc) (λ x b q k. search (rules, tests))) (cc))
    c.loop-k.yielded _ c.loop-k.yielded_by _ _ (c.in-Some.k, c.in-Some.line) c.in-Some.is c.next.ensures.steps in
    refused_here c.args.octets.now _ _ _ _ c.loop-k.invariant.goes t.0 t.1 _ c.in-Err.ensures

pub loop-k-preserved : goal.loop-k-preserved
unfolding lines
loop-k-preserved c =
    let t = YieldsList-turn
    (YieldsList-from_enumerate
    (YieldsList-from_slice_split _ (λ x. x =? 10) c.args.octets.now (cc) (cc) (cc) (λ x b q k. search (rules, tests))) (cc))
    c.loop-k.yielded _ c.loop-k.yielded_by _ _ (c.in-Some.k, c.in-Some.line) c.in-Some.is c.next.ensures.steps in
    rw (length_push c.loop-k.yielded (c.in-Some.k, c.in-Some.line))
    (record {
      goes = turn c.args.octets.now _ _ _ _ c.loop-k.invariant.goes t.0 t.1 _ c.in-Ok.ensures;
      room = line-room _ c.loop-k.invariant.room _ _ c.in-Ok.ensures;
    })

pub returns : goal.returns
unfolding lines
returns c =
    let t = YieldsList-end
    (YieldsList-from_enumerate
    (YieldsList-from_slice_split _ (λ x. x =? 10) c.args.octets.now (cc) (cc) (cc) (λ x b q k. search (rules, tests))) (cc))
    c.loop-k.yielded _ c.loop-k.yielded_by _ _ c.in-None.is c.next.ensures.steps in
    all_taken c.args.octets.now _ _ c.loop-k.invariant.goes c.loop-k.invariant.room t.1
