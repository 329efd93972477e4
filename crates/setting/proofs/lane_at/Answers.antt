-- `setting::lane_at` meets its contract: the first numbered lane that is looked for stands at the first number that is.
use Rattle.std.proofs.Common.{rules, arith, ◌∙◌, ◌&&◌, take}
use Rattle.std.proofs.lemmas.Iterator.{YieldsList-from_slice}
use Rattle.std.proofs.lemmas.Iterator.Search.{position_from_yields_List}
use Rattle.rules.specs.Tests.{◌=?◌}
use Rattle.rules.specs.Refusals.{lane_at}
use Rattle.setting.proofs.Everys.{first_of}
use Rattle.setting.proofs.lane_at.Goals as goal

pub returns : goal.returns
unfolding lane_at
returns c =
    let a = c.args in
    position_from_yields_List (λ x. x.channel =? a.c && x.map =? a.map) _ _ _ c.position.ensures.ran
    (YieldsList-from_slice (take a.s.numbered a.s.lanes) (search rules)) (λ x t q d. (search rules, search rules))
    ∙ first_of _ _ _ _ (omega arith)
