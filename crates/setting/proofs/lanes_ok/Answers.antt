-- `setting::lanes_ok` meets its contract: each numbered lane is in its ranges, and every two differ.
use Rattle.std.proofs.Common.{rules, arith, ◌≡◌, ◌∙◌, ◌≤◌, take}
use Rattle.std.proofs.lemmas.Iterator.{YieldsList-from_slice}
use Rattle.std.proofs.lemmas.Iterator.Search.{all_from_yields_List}
use Rattle.rules.specs.Tests.{every, all}
use Rattle.rules.specs.Settings.{no_lane, lane, lane_ok, lanes_differ, lanes_ok}
use Rattle.setting.proofs.Everys.{every_of, pairs_in}
use Rattle.setting.proofs.lanes_ok.Goals as goal

pub returns-then-all : goal.returns-then-all
unfolding lanes_ok all
returns-then-all c =
    let s = c.args.s in
    let few : s.numbered ≤ 8 = search rules in
    let each : c.all.result ≡ every s.numbered (λ i. lane_ok s (lane s i)) =
    all_from_yields_List (lane_ok s) _ _ _ c.all.ensures.ran (YieldsList-from_slice (take s.numbered s.lanes) (search rules)) (λ x t q d. search rules)
    ∙ every_of (lane_ok s) s.lanes no_lane _ (omega arith) in
    let two = c.every_two.ensures lanes_differ no_lane (λ a b t d. d) ∙ pairs_in lanes_differ no_lane s.lanes _ s.numbered (omega arith) (search rules) in
    search (rules, each, two)

pub returns-else-all : goal.returns-else-all
unfolding lanes_ok all
returns-else-all c =
    let s = c.args.s in
    let few : s.numbered ≤ 8 = search rules in
    let each : c.all.result ≡ every s.numbered (λ i. lane_ok s (lane s i)) =
    all_from_yields_List (lane_ok s) _ _ _ c.all.ensures.ran (YieldsList-from_slice (take s.numbered s.lanes) (search rules)) (λ x t q d. search rules)
    ∙ every_of (lane_ok s) s.lanes no_lane _ (omega arith) in
    search (rules, each)
