-- `reader::take_found` meets its contract: with a short area it refuses by the rule's number, else what was found is what a read's checks say.
use mathlib.Core.Path.{refl, sym, ◌∙◌}
use Rattle.std.specs.Prelude.{Err}
use Rattle.rules.specs.Tests.{number_of}
use Rattle.rules.specs.Calls.{on_verdict}
use Rattle.judge.proofs.Sights.{verdict-is}
use Rattle.reader.proofs.Verdicts.{said, found-lent, found-short, areas-kept}
use Rattle.reader.proofs.take_found.Goals as goal

pub returns-then-areas_short : goal.returns-then-areas_short
unfolding on_verdict
returns-then-areas_short c =
    let a = c.args in
    let e = found-short a.r a.f.now a.h.now a.u.now a.c.now (sym c.areas_short.ensures ∙ c.if-areas_short.true) in
    areas-kept a.r a.f.now a.h.now a.u.now a.c.now _ _ _ e
    (c.untouched.ensures ∙ rw (c.number.ensures, c.short_refusal.ensures)) refl

pub act_on-requires : goal.act_on-requires
act_on-requires c =
    let a = c.args in (
      found-lent a.r a.f.now a.h.now a.u.now a.c.now (sym c.areas_short.ensures ∙ c.if-areas_short.false) _ (rw c.in-Ok.is at c.requires.0),
      rw c.in-Ok.is at c.requires.1,
    )

pub returns-in-Err : goal.returns-in-Err
unfolding on_verdict
returns-in-Err c =
    let a = c.args in
    let q = found-lent a.r a.f.now a.h.now a.u.now a.c.now (sym c.areas_short.ensures ∙ c.if-areas_short.false) _ (rw c.in-Err.is at c.requires.0) in
    let e = verdict-is a.r.setting a.f.now _ _ (sym (said a.r a.f.now _ (Err (number_of c.in-Err.refusal)) q)) in
    areas-kept a.r a.f.now a.h.now a.u.now a.c.now _ _ _ e (c.untouched-in-Err.ensures ∙ rw c.number-in-Err.ensures) refl
