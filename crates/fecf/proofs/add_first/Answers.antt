use Rattle.std.proofs.Common.{arith, refl}
use Rattle.fecf.proofs.Turns.{plus_none, plus_turn}
use Rattle.fecf.proofs.add_first.Goals as goal

pub loop-j-init : goal.loop-j-init
loop-j-init c = plus_none c.args.octets.now c.args.area.now

pub loop-j-preserved : goal.loop-j-preserved
loop-j-preserved c = plus_turn c.args.octets.now c.args.area.now c.loop-j.area c.loop-j.j _ (omega arith) (omega arith) c.loop-j.invariant refl
