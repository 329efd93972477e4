-- `setting::channels_ok` meets its contract: each listed channel is in its ranges, and every two agree.
use Rattle.std.proofs.Common.{rules, arith, ◌≡◌, ◌∙◌, ◌≤◌, take}
use Rattle.std.proofs.lemmas.Iterator.{YieldsList-from_slice}
use Rattle.std.proofs.lemmas.Iterator.Search.{all_from_yields_List}
use Rattle.rules.specs.Tests.{every, all}
use Rattle.rules.specs.Settings.{no_channel, channel, channel_ok, channels_agree, channels_ok}
use Rattle.setting.proofs.Everys.{every_of, pairs_in}
use Rattle.setting.proofs.channels_ok.Goals as goal

pub returns-then-all : goal.returns-then-all
unfolding channels_ok all
returns-then-all c =
    let s = c.args.s in
    let few : s.listed ≤ 8 = search rules in
    let each : c.all.result ≡ every s.listed (λ i. channel_ok s (channel s i)) =
    all_from_yields_List (channel_ok s) _ _ _ c.all.ensures.ran (YieldsList-from_slice (take s.listed s.channels) (search rules)) (λ x t q d. search rules)
    ∙ every_of (channel_ok s) s.channels no_channel _ (omega arith) in
    let two =
    c.every_two.ensures channels_agree no_channel (λ a b t d. d)
    ∙ pairs_in channels_agree no_channel s.channels _ s.listed (omega arith) (search rules) in
    search (rules, each, two)

pub returns-else-all : goal.returns-else-all
unfolding channels_ok all
returns-else-all c =
    let s = c.args.s in
    let few : s.listed ≤ 8 = search rules in
    let each : c.all.result ≡ every s.listed (λ i. channel_ok s (channel s i)) =
    all_from_yields_List (channel_ok s) _ _ _ c.all.ensures.ran (YieldsList-from_slice (take s.listed s.channels) (search rules)) (λ x t q d. search rules)
    ∙ every_of (channel_ok s) s.channels no_channel _ (omega arith) in
    search (rules, each)
