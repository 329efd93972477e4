-- `judge::judge_listed` meets its contract: the channel's count length and OCF are tested in this order, then the count is taken.
use mathlib.Core.Path.{refl, sym, ap}
use native.Mathlib.Omega.{arith}
use borrow.Author.Tests.{eq-eqb, ne_eqb}
use Rattle.rules.specs.Frames.{map}
use Rattle.rules.specs.Refusals.{lane_at}
use Rattle.header.specs.declared.Head.{Head}
use Rattle.header.specs.Heads.{head_of}
use Rattle.judge.specs.Judging.{judge_listed}
use Rattle.judge.specs.Sights.{sight_of}
use Rattle.judge.proofs.Places.{fits}
use Rattle.judge.proofs.Sights.{fitting}
use Rattle.rules.proofs.Calls.{if_ok-by}
use Rattle.judge.proofs.judge_listed.Goals as goal

pub offset_bounds-channels-c : goal.offset_bounds-channels-c
offset_bounds-channels-c c = omega (arith, (fits _ _ c.requires.0.ok c.requires.0.listed).eight)

pub bounds-channels-c : goal.bounds-channels-c
bounds-channels-c c = (fits _ _ c.requires.0.ok c.requires.0.listed).eight

pub returns-then-h-ch : goal.returns-then-h-ch
unfolding judge_listed head_of sight_of
returns-then-h-ch c =
    let k = ap (λ (x : Head). x.octets) c.requires.1 in
    (rw (sym k, ne_eqb _ _ c.if-h-ch.true), tt)

pub returns-then-h-ch-2 : goal.returns-then-h-ch-2
unfolding judge_listed head_of sight_of
returns-then-h-ch-2 c =
    let k = ap (λ (x : Head). x.octets) c.requires.1 in
    let o = ap (λ (x : Head). x.ocf) c.requires.1 in
    (rw (sym k, eq-eqb _ _ c.if-h-ch.false, sym o, ne_eqb _ _ c.if-h-ch-2.true), tt)

pub count_in-k-requires : goal.count_in-k-requires
count_in-k-requires c =
    let p = c.requires.0 in
    let q = fits _ _ p.ok p.listed in
    (q.seven, omega (arith, q.inside, p.whole))

pub returns : goal.returns
unfolding judge_listed head_of
returns c =
    let a = c.args in
    let k = ap (λ (x : Head). x.octets) c.requires.1 in
    let o = ap (λ (x : Head). x.ocf) c.requires.1 in
    let n = c.count_in-k.ensures in (
      rw (
        sym k,
        eq-eqb _ _ c.if-h-ch.false,
        sym o,
        eq-eqb _ _ c.if-h-ch-2.false,
      ) c.judge_map.ensures,
      if_ok-by c.judge_map.result _ (rw c.judge_map.ensures (fitting a.s a.frame.now a.c (omega (arith, n.0, n.1)) (lane_at a.s a.c (map a.frame.now)) refl)),
    )
