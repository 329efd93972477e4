-- `setting::channel_at` meets its contract: the first listed channel that is looked for stands at the first number that is.
use Rattle.std.proofs.Common.{rules, arith, ◌∙◌, ◌&&◌, take}
use Rattle.std.proofs.lemmas.Iterator.{YieldsList-from_slice}
use Rattle.std.proofs.lemmas.Iterator.Search.{position_from_yields_List}
use Rattle.rules.specs.Tests.{◌=?◌}
use Rattle.rules.specs.Refusals.{channel_at}
use Rattle.setting.proofs.Everys.{first_of}
use Rattle.setting.proofs.channel_at.Goals as goal

pub returns : goal.returns
unfolding channel_at
returns c =
    let a = c.args in
    position_from_yields_List (λ x. x.vc =? a.vc && x.service =? a.service) _ _ _ c.position.ensures.ran
    (YieldsList-from_slice (take a.s.listed a.s.channels) (search rules)) (λ x t q d. (search rules, search rules))
    ∙ first_of _ _ _ _ (omega arith)
