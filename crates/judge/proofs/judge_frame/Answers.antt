-- `judge::judge_frame` meets its contract: length and check first, then the header's fields, then its channel.
use mathlib.Core.Path.{◌≡◌, sym, ap, ◌∙◌}
use native.Mathlib.Omega.{arith}
use borrow.Author.Tests.{eq-eqb, ne_eqb}
use Rattle.rules.proofs.Valid.{good}
use Rattle.rules.specs.Tests.{number_of}
use Rattle.rules.specs.Calls.{refusal_of}
use Rattle.judge.specs.Judging.{judge_frame, judge_head, head_refusal}
use Rattle.judge.specs.Sights.{sight_of}
use Rattle.judge.proofs.Judging.{judge-frame, refused-head}
use Rattle.rules.proofs.Calls.{passed-on}
use Rattle.judge.proofs.judge_frame.Goals as goal

pub returns-then-frame-s : goal.returns-then-frame-s
unfolding judge_frame sight_of
returns-then-frame-s c = (rw (judge-frame, ne_eqb _ _ c.if-frame-s.true), tt)

pub check_holds-requires : goal.check_holds-requires
check_holds-requires c = omega (arith, (good _ c.requires).low, c.if-frame-s.false)

pub returns-then-not-check_holds : goal.returns-then-not-check_holds
unfolding judge_frame sight_of
returns-then-not-check_holds c = (rw (judge-frame, eq-eqb _ _ c.if-frame-s.false, sym c.check_holds.ensures ∙ c.if-not-check_holds.true), tt)

pub check_head-requires : goal.check_head-requires
check_head-requires c = omega (arith, (good _ c.requires).low)

pub returns-in_err-check_head : goal.returns-in_err-check_head
unfolding refusal_of
returns-in_err-check_head c =
    let a = c.args in
    let e = c.in_err-check_head.field-0.0 in
    let n : number_of e ≡ head_refusal a.s c.head_of-h.result = c.in_err-check_head.ensures in
    passed-on _ _ e _ c.from_residual.ensures.1
    (refused-head a.s a.frame.now e (n ∙ ap (head_refusal a.s) c.head_of-h.ensures) c.if-frame-s.false (sym c.check_holds.ensures ∙ c.if-not-check_holds.false))

pub returns : goal.returns
unfolding judge_frame judge_head refusal_of
returns c =
    let k : 0 ≡ head_refusal c.args.s c.head_of-h.result = c.in_ok-check_head.ensures in
    let n = sym (k ∙ ap (head_refusal c.args.s) c.head_of-h.ensures) in (
      rw (
        judge-frame,
        eq-eqb _ _ c.if-frame-s.false,
        sym c.check_holds.ensures ∙ c.if-not-check_holds.false,
        n,
      ) c.judge_channel.ensures.0,
      c.judge_channel.ensures.1,
    )
