-- The first place that passes, or else the end.
use Rattle.std.proofs.Common.{rules, tests}
use Rattle.std.proofs.lemmas.Iterator.{YieldsList-from_slice}
use Rattle.std.proofs.lemmas.Iterator.Search.{position_from_yields_List}
use Rattle.setting_text.specs.Texts.{stops}
use Rattle.setting_text.proofs.Texts.{until_found}
use Rattle.setting_text.proofs.until_stop.Goals as goal

pub returns : goal.returns
returns c =
    let xs = c.args.octets.now in
    let e = position_from_yields_List (stops c.args.s) _ _ c.position.result c.position.ensures.ran (YieldsList-from_slice xs cc)
    (λ x b q k. search (rules, tests)) in
    rw c.unwrap_or.ensures (until_found c.args.s xs _ e)
