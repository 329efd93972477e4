-- `judge::judge_map` meets its contract: by whether a lane was found, then by the command bit.
use mathlib.Core.Path.{◌≡◌, sym, ap, ◌∙◌}
use borrow.Author.Tests.{eq-eqb, ne_eqb}
use Rattle.rules.proofs.Valid.{good}
use Rattle.header.specs.declared.Head.{Head}
use Rattle.header.specs.Heads.{head_of}
use Rattle.std.specs.Prelude.{Ok}
use Rattle.rules.specs.Frames.{map}
use Rattle.rules.specs.Refusals.{lane_at}
use Rattle.rules.specs.declared.Verdict.{Verdict}
use Rattle.judge.specs.declared.Sighting.{Sighting}
use Rattle.judge.specs.Sights.{sight_of}
use Rattle.judge.specs.Judging.{judge_map}
use Rattle.judge.proofs.Places.{lane-found, lane-on}
use Rattle.judge.proofs.Sights.{counted_is}
use Rattle.judge.proofs.judge_map.Goals as goal

pub lane_at-requires : goal.lane_at-requires
lane_at-requires c = (good _ c.requires.0.ok).numbered

pub judge_data-requires : goal.judge_data-requires
judge_data-requires c =
    let a = c.args in
    let p = c.requires in
    let e = sym c.lane_at.ensures ∙ c.in-Some.is in
    (p.0, lane-found a.s a.c a.h.map _ e, lane-on a.s a.c a.h.map _ e, p.2)

pub returns-in-Some : goal.returns-in-Some
unfolding judge_map head_of
returns-in-Some c =
    let a = c.args in
    let m = ap (λ (x : Head). x.map) c.requires.1 in
    let k = ap (λ (x : Head). x.command) c.requires.1 in
    rw (
      sym (ap (lane_at a.s a.c) m),
      sym c.lane_at.ensures,
      c.in-Some.is,
      sym k,
      ne_eqb _ _ c.if-h-ne1.true,
    ) c.judge_data.ensures

pub returns-in-None : goal.returns-in-None
unfolding judge_map head_of
returns-in-None c =
    let a = c.args in
    let p = c.requires in
    let m = ap (λ (x : Head). x.map) p.1 in
    let e : judge_map a.s a.c a.frame.now (lane_at a.s a.c (map a.frame.now)) ≡ Verdict.Counted a.c =
    rw (sym (ap (lane_at a.s a.c) m), sym c.lane_at.ensures, c.in-None.is) in
    ap (λ (x : Sighting). Ok x) c.counted.ensures ∙ counted_is a.s a.frame.now a.c a.k p.2 ∙ ap (sight_of a.s a.frame.now) (sym e)

pub returns-in-Some-2 : goal.returns-in-Some-2
unfolding judge_map head_of
returns-in-Some-2 c =
    let a = c.args in
    let p = c.requires in
    let m = ap (λ (x : Head). x.map) p.1 in
    let k = ap (λ (x : Head). x.command) p.1 in
    let e : judge_map a.s a.c a.frame.now (lane_at a.s a.c (map a.frame.now)) ≡ Verdict.Counted a.c =
    rw (sym (ap (lane_at a.s a.c) m), sym c.lane_at.ensures, c.in-Some-2.is, sym k, eq-eqb _ _ c.if-h-ne1.false) in
    ap (λ (x : Sighting). Ok x) c.counted-in-Some-2.ensures ∙ counted_is a.s a.frame.now a.c a.k p.2 ∙ ap (sight_of a.s a.frame.now) (sym e)
