-- `judge::check_head` meets its contract: the end of the header is judged once version and craft are right.
use Rattle.std.proofs.Common.{arith}
use mathlib.Core.Path.{◌≡◌}
use borrow.Author.Tests.{eq-eqb}
use Rattle.rules.specs.Calls.{refusal_of}
use Rattle.judge.specs.Judging.{head_refusal}
use Rattle.judge.proofs.check_head.Goals as goal

pub returns-then-h-eq1 : goal.returns-then-h-eq1
unfolding head_refusal refusal_of
returns-then-h-eq1 c =
    let v : c.args.h.version ≡ 12 = omega arith in
    let k : c.args.h.craft ≡ c.args.s.craft = omega arith in
    let b : c.args.h.bit ≡ c.args.s.bit = omega arith in
    rw (eq-eqb _ _ v, eq-eqb _ _ k, eq-eqb _ _ b, eq-eqb _ _ c.if-h-eq1.true)
