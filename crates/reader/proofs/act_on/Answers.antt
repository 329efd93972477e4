-- `reader::act_on` meets its contract: each case of what was found makes what the rule makes of the verdict behind it.
use mathlib.Core.Path.{refl, sym, ap, ◌∙◌}
use Rattle.std.specs.Prelude.{Ok}
use Rattle.rules.specs.Calls.{on_verdict}
use Rattle.judge.specs.declared.Sighting.{Sighting}
use Rattle.judge.proofs.Sights.{verdict-is}
use Rattle.reader.specs.Finds.{missing_for}
use Rattle.reader.proofs.Verdicts.{said, gone, areas-kept}
use Rattle.reader.proofs.act_on.Goals as goal

pub take_seen-requires : goal.take_seen-requires
take_seen-requires c =
    let a = c.args in
    let e = c.in-Seen.is in
    record {
      found = ap (λ (x : Sighting). Ok x) (sym e) ∙ said a.r a.f.now _ _ c.requires.0;
      missing = gone a.r a.f.now _ a.v c.requires.0 ∙ ap (missing_for a.r) e;
      sound = rw e at c.requires.1;
    }

pub returns-in-Idle : goal.returns-in-Idle
unfolding on_verdict
returns-in-Idle c =
    let a = c.args in
    let e = verdict-is a.r.setting a.f.now _ _ (sym (said a.r a.f.now _ _ c.requires.0) ∙ ap (λ (x : Sighting). Ok x) c.in-Idle.is) in
    areas-kept a.r a.f.now a.h.now a.u.now a.c.now _ _ _ e c.untouched.ensures refl

pub returns-in-Repeat : goal.returns-in-Repeat
unfolding on_verdict
returns-in-Repeat c =
    let a = c.args in
    let e = verdict-is a.r.setting a.f.now _ _ (sym (said a.r a.f.now _ _ c.requires.0) ∙ ap (λ (x : Sighting). Ok x) c.in-Repeat.is) in
    areas-kept a.r a.f.now a.h.now a.u.now a.c.now _ _ _ e c.untouched-in-Repeat.ensures refl
