-- A frame is passed, taken into the totals and handed out.
use Rattle.unpack.proofs.Carried.{gives, handles}
use Rattle.unpack.proofs.each_frame.handle.Goals as goal

pub give_out-went-requires : goal.give_out-went-requires
give_out-went-requires c =
    let a = c.args in
    let w = c.pass-w in
    gives a.without a.u a.frame.now a.areas.now (record { held = w.new.held; units = w.new.units; records = w.new.records }) w.result _
    w.ensures c.take_frame-p.ensures
    c.requires.1 w.auto.units w.auto.records

pub returns-clause-handled : goal.returns-clause-handled
returns-clause-handled c =
    let a = c.args in
    let w = c.pass-w in
    handles a.without a.u a.frame.now a.areas.now (record { held = w.new.held; units = w.new.units; records = w.new.records }) w.result _
    w.ensures c.take_frame-p.ensures
    a.n _ _ c.turn_after-v.ensures
