-- `setting::every_two` meets its contract: each of those before number i passes beside each one before it.
use Rattle.std.proofs.Common.{rules, arith, sym, ◌∙◌, take, below_none, below_more}
use Rattle.std.proofs.lemmas.Iterator.{YieldsList-from_slice}
use Rattle.std.proofs.lemmas.Iterator.Search.{all_from_yields_List}
use Rattle.rules.proofs.Tests.{at_every, every-not}
use Rattle.setting.proofs.Everys.{beside}
use Rattle.setting.proofs.every_two.Goals as goal

pub loop-i-init : goal.loop-i-init
loop-i-init g c = λ p z h. below_none _

pub returns-then-not-all : goal.returns-then-not-all
returns-then-not-all g c = λ p z h.
    let i = c.loop-i.i in
    let b = c.index-xs-i.result in
    let all =
    all_from_yields_List (λ a. p a b) _ _ _ c.all.ensures.ran (YieldsList-from_slice (take i c.args.xs.now) c.iter.ensures.rest)
    (λ x t q d. (search rules, h _ _ _ (search rules))) in
    sym (every-not _ _ _ c.loop-i-test.true (sym (beside p z _ _ _ _ c.loop-i-test.true c.index-xs-i.is all) ∙ c.if-not-all.true))

pub loop-i-preserved : goal.loop-i-preserved
loop-i-preserved g c = λ p z h.
    let i = c.loop-i.i in
    let b = c.index-xs-i.result in
    let all =
    all_from_yields_List (λ a. p a b) _ _ _ c.all.ensures.ran (YieldsList-from_slice (take i c.args.xs.now) c.iter.ensures.rest)
    (λ x t q d. (search rules, h _ _ _ (search rules))) in
    below_more _ _ (c.loop-i.invariant p z h) (sym (beside p z _ _ _ _ c.loop-i-test.true c.index-xs-i.is all) ∙ c.if-not-all.false)

pub returns : goal.returns
returns g c = λ p z h. sym (at_every _ _ (λ i l. c.loop-i.invariant p z h i (omega arith)))
