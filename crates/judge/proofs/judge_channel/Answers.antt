-- `judge::judge_channel` meets its contract: by whether a channel was found.
use mathlib.Core.Path.{sym, ap, ◌∙◌}
use borrow.Author.Tests.{eq-eqb, ne_eqb}
use Rattle.rules.proofs.Valid.{good}
use Rattle.header.specs.declared.Head.{Head}
use Rattle.header.specs.Heads.{head_of}
use Rattle.judge.specs.Judging.{judge_channel}
use Rattle.judge.specs.Sights.{sight_of}
use Rattle.judge.proofs.Places.{channel-found}
use Rattle.judge.proofs.judge_channel.Goals as goal

pub channel_at-requires : goal.channel_at-requires
channel_at-requires c = (good _ c.requires.0).listed

pub judge_listed-requires : goal.judge_listed-requires
judge_listed-requires c =
    let a = c.args in
    let p = c.requires in
    let e = sym c.channel_at.ensures ∙ c.in-Some.is in
    (record { ok = p.0; listed = channel-found a.s a.h.vc a.h.bypass _ e; whole = p.1 }, p.2)

pub returns-in-Some : goal.returns-in-Some
unfolding judge_channel head_of
returns-in-Some c =
    let v = ap (λ (x : Head). x.vc) c.requires.2 in
    let b = ap (λ (x : Head). x.bypass) c.requires.2 in
    (rw (sym v, sym b, sym c.channel_at.ensures, c.in-Some.is) c.judge_listed.ensures.0, c.judge_listed.ensures.1)

pub returns-in-None : goal.returns-in-None
unfolding judge_channel head_of sight_of
returns-in-None c =
    let v = ap (λ (x : Head). x.vc) c.requires.2 in
    let b = ap (λ (x : Head). x.bypass) c.requires.2 in
    (rw (sym v, sym b, sym c.channel_at.ensures, c.in-None.is, sym v, ne_eqb _ _ c.if-h-ne63.true), tt)

pub returns-in-None-2 : goal.returns-in-None-2
unfolding judge_channel head_of sight_of
returns-in-None-2 c =
    let v = ap (λ (x : Head). x.vc) c.requires.2 in
    let b = ap (λ (x : Head). x.bypass) c.requires.2 in
    (rw (sym v, sym b, sym c.channel_at.ensures, c.in-None.is, sym v, eq-eqb _ _ c.if-h-ne63.false), tt)
