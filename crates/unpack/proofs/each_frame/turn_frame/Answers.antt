-- No octets, for a read failed or the recording ended, or a frame.
use Rattle.unpack.proofs.Carried.{halts, takes}
use Rattle.unpack.proofs.each_frame.turn_frame.Goals as goal

pub returns-then-n-eq0-clause-turned : goal.returns-then-n-eq0-clause-turned
returns-then-n-eq0-clause-turned c =
    let a = c.args in
    halts a.without a.u a.came _ a.areas.now a.frame.now c.unwrap_or-n.ensures c.if-n-eq0.true c.halted.ensures

pub returns-else-n-eq0-clause-turned : goal.returns-else-n-eq0-clause-turned
returns-else-n-eq0-clause-turned c =
    let a = c.args in
    takes a.without a.u a.came _ _ a.frame.now c.unwrap_or-n.ensures c.if-n-eq0.false c.handle.ensures.handled
