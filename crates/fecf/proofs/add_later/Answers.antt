use Rattle.std.proofs.Common.{arith, drop}
use Rattle.fecf.proofs.Turns.{plus_none, later-turn, later-all}
use Rattle.fecf.proofs.add_later.Goals as goal

pub loop-j-init : goal.loop-j-init
loop-j-init c = plus_none (drop c.args.d c.args.area.now) c.args.area.now

pub loop-j-preserved : goal.loop-j-preserved
loop-j-preserved c = later-turn c.args.d c.loop-j.j c.args.area.now c.loop-j.area (omega arith) c.loop-j.invariant

pub returns : goal.returns
returns c = later-all c.args.d c.loop-j.j c.args.area.now c.loop-j.area (omega arith) c.loop-j.invariant
