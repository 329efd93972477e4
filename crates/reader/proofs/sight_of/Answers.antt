-- `reader::sight_of` meets its contract: state, then the frame, then whether it is a repeat.
use mathlib.Core.Path.{◌≡◌, sym, ap, ◌∙◌}
use mathlib.Core.Bool.{true}
use Rattle.std.specs.Prelude.{Ok}
use Rattle.rules.specs.declared.Verdict.{Verdict}
use Rattle.rules.specs.Tests.{number_of}
use Rattle.rules.specs.Settings.{reader_ok}
use Rattle.rules.specs.Calls.{looked}
use Rattle.rules.proofs.Calls.{passed-on}
use Rattle.rules.proofs.Valid.{good_reader}
use Rattle.rules.proofs.Looks.{looked-cond}
use Rattle.judge.specs.Sights.{sight_of}
use Rattle.judge.specs.declared.Sighting.{Sighting}
use Rattle.reader.proofs.Verdicts.{sound, sound-again, again_by, looked-again, refused-again}
use Rattle.reader.proofs.sight_of.Goals as goal

pub returns-then-not-reader_ok : goal.returns-then-not-reader_ok
unfolding sight_of
returns-then-not-reader_ok c =
    let a = c.args in
    let e : looked a.r a.frame.now ≡ Verdict.Refused 1 = looked-cond a.r a.frame.now ∙ rw (sym c.reader_ok.ensures ∙ c.if-not-reader_ok.true) in
    (sym (ap (sight_of a.r.setting a.frame.now) e), tt)

pub judge_frame-requires : goal.judge_frame-requires
judge_frame-requires c = (good_reader _ (sym c.reader_ok.ensures ∙ c.if-not-reader_ok.false)).ok

pub returns-in_err-v : goal.returns-in_err-v
returns-in_err-v c =
    let a = c.args in
    let ok : reader_ok a.r ≡ true = sym c.reader_ok.ensures ∙ c.if-not-reader_ok.false in
    let e = c.in_err-v.field-0.0 in
    passed-on _ _ e _ c.from_residual.ensures.1 (refused-again a.r a.frame.now ok (number_of e) c.in_err-v.ensures.0)

pub again-requires : goal.again-requires
again-requires c =
    let a = c.args in
    let ok : reader_ok a.r ≡ true = sym c.reader_ok.ensures ∙ c.if-not-reader_ok.false in
    sound a.r a.frame.now ok _ c.in_ok-v.ensures.0 c.in_ok-v.ensures.1

pub returns : goal.returns
returns c =
    let a = c.args in
    let ok : reader_ok a.r ≡ true = sym c.reader_ok.ensures ∙ c.if-not-reader_ok.false in
    let p = c.in_ok-v.ensures in
    let e = c.again.ensures in (
      ap (λ (x : Sighting). Ok x) e ∙ ap (again_by a.r) p.0 ∙ looked-again a.r a.frame.now ok,
      rw e (sound-again a.r _ (sound a.r a.frame.now ok _ p.0 p.1)),
    )
