use Rattle.std.proofs.Common.{arith, ◌∙◌}
use Rattle.fecf.proofs.Turns.{carry_turn, carry_all}
use Rattle.fecf.proofs.carry.Goals as goal

pub loop-j-preserved : goal.loop-j-preserved
loop-j-preserved c =
    let a = c.args in
    c.loop-j.invariant ∙ carry_turn a.u c.loop-j.j c.loop-j.area a.octets.now (omega arith) (omega arith) (omega arith)

pub returns : goal.returns
returns c = carry_all c.args.u c.loop-j.j c.loop-j.area _ c.args.octets.now (omega arith) (omega arith) c.loop-j.invariant
