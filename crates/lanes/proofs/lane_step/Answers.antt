-- What is lent has room for all that the rule makes. The step begins as its opening says, and stops there or walks on: together that is the rule's.
use mathlib.Core.Path.{sym}
use native.Mathlib.Omega.{arith}
use lib.Seq.{length-take-le}
use Rattle.lanes.proofs.Hands.{held-length}
use Rattle.lanes.proofs.Parts.{opens-ready, stops-went, walks-room, walks-went, lent_ready, stepped}
use Rattle.lanes.proofs.lane_step.Goals as goal

pub slice_bounds-opening_of-end-2 : goal.slice_bounds-opening_of-end-2
slice_bounds-opening_of-end-2 c =
    sym (length-take-le _ _ (lent_ready c.args.rule c.requires).inside)

pub opening_of-o-requires : goal.opening_of-o-requires
opening_of-o-requires c =
    let ready = lent_ready c.args.rule c.requires in
    let n = held-length ready in
    (record { long = n; within = ready.within }, c.requires.inside)

pub slice_bounds-settle-end : goal.slice_bounds-settle-end
slice_bounds-settle-end c = sym (length-take-le _ _ c.opening_of-o.ensures.inside)

pub settle-led-requires : goal.settle-led-requires
settle-led-requires c =
    opens-ready c.args.terms.info (lent_ready c.args.rule c.requires) c.opening_of-o.ensures

pub returns-then-o : goal.returns-then-o
returns-then-o c =
    stepped (stops-went _ (lent_ready c.args.rule c.requires) c.opening_of-o.ensures c.settle-led.ensures c.if-o.true)

pub walk_step-requires : goal.walk_step-requires
walk_step-requires c = (
  c.opening_of-o.ensures.inside,
  omega (arith, c.requires.zone, c.requires.part, c.part-1.given),
  omega (arith, c.requires.zone),
  walks-room _ (lent_ready c.args.rule c.requires) c.opening_of-o.ensures c.settle-led.ensures c.if-o.false,
)

pub returns-else-o : goal.returns-else-o
returns-else-o c =
    stepped (walks-went _ (lent_ready c.args.rule c.requires) c.opening_of-o.ensures c.settle-led.ensures c.if-o.false
    c.walk_step.ensures)
