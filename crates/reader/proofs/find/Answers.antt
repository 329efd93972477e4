-- `reader::find` meets its contract: what the checks say, and what is missing before a frame that they say this of.
use Rattle.rules.specs.Tests.{number_of}
use Rattle.rules.proofs.Calls.{passed-on}
use Rattle.reader.proofs.Verdicts.{found-ok, found-err}
use Rattle.reader.proofs.find.Goals as goal

pub returns-in_err-sighting : goal.returns-in_err-sighting
returns-in_err-sighting c =
    let a = c.args in
    let e = c.in_err-sighting.field-0.0 in
    passed-on _ _ e _ c.from_residual.ensures.1 (found-err a.r a.frame.now _ (number_of e) c.in_err-sighting.ensures.0)

pub returns : goal.returns
returns c =
    let a = c.args in
    let p = c.in_ok-sighting.ensures in
    (found-ok a.r a.frame.now _ _ _ p.0 c.missing_before-missing.ensures, p.1)
