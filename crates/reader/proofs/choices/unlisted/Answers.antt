-- `reader::choices::unlisted` meets its contract: the first of the range that is looked for is the first number that is.
use Rattle.std.proofs.Common.{refl, ◌∙◌, ℕ, false, ◌&&◌, get_or, rules}
use Rattle.std.proofs.lemmas.Iterator.{YieldsList-from_range}
use Rattle.std.proofs.lemmas.Iterator.Search.{position_from_yields_List}
use Rattle.rules.specs.Tests.{none}
use Rattle.rules.specs.Refusals.{channel_at}
use Rattle.rules.specs.Passes.{unlisted}
use Rattle.reader.proofs.Firsts.{first_in}
use Rattle.reader.proofs.choices.unlisted.Goals as goal

pub returns : goal.returns
unfolding unlisted
returns c =
    let a = c.args in
    let p = λ (v : ℕ). get_or a.without v false && (none (channel_at a.s v 0) && none (channel_at a.s v 1)) in
    position_from_yields_List p _ _ _ c.position.ensures.ran (YieldsList-from_range 0 63 63 refl refl) (λ x t q d. (search rules, search rules))
    ∙ first_in p 63
