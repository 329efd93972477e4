-- `writer::frames::put_frame` meets its contract: front, data field and end are laid one after another, and the check sees the whole of what stands before.
use Prim.Native.Nat.{ℕ, ◌+◌}
use mathlib.Core.Path.{sym, ap, ◌∙◌}
use mathlib.Core.Bool.{cond}
use mathlib.Core.List.{List, [], ◌++◌}
use native.Mathlib.Omega.{arith}
use lib.ListN.{length, take}
use Rattle.rules.specs.Octets.{be, check_of}
use Rattle.rules.specs.Areas.{laid}
use Rattle.rules.specs.Frames.{primary, data_header}
use Rattle.rules.specs.Writing.{zone_of, rule_of, pointer_of}
use Rattle.writer.proofs.Laying.{frame-laid, frame_is, primary-length, data_length}
use Rattle.writer.proofs.frames.put_frame.Goals as goal

pub returns : goal.returns
returns c =
    let q = c.args in
    let x = q.x in
    let k = x.lane.kind in
    let from = 7 + x.channel.octets + length q.insert.now in
    let a = primary q.s x.channel x.lane x.count ++ q.insert.now in
    let d = data_header (rule_of k x.number) x.lane.upid (pointer_of k x.zone q.batch.now x.number) ++ zone_of k x.zone q.batch.now
    x.number in
    let la = primary-length q.s x.channel x.lane x.count q.insert.now in
    let ld = data_length (rule_of k x.number) x.lane.upid (pointer_of k x.zone q.batch.now x.number) k x.zone q.batch.now x.number in
    c.put_end.ensures
    ∙ ap (λ (y : List ℕ). laid y (from + 3 + x.zone) (q.ocf.now ++ cond q.s.check (be 2 (check_of (take (from + 3 + x.zone) y ++ q.ocf.now))) []))
    (c.put_data.ensures ∙ ap (λ (y : List ℕ). laid y from d) c.put_front.ensures)
    ∙ frame-laid q.area.now a d q.ocf.now q.s.check from x.zone (sym la) (sym ld)
    (omega (arith, c.requires.0.room, la, ld))
    ∙ ap (laid q.area.now 0) (sym (frame_is q.s x q.batch.now q.insert.now q.ocf.now))
