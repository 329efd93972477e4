-- The packets before that octet, then those from it on: together they are the whole batch.
use Rattle.std.proofs.Common.{arith, length}
use Rattle.batches.specs.Starts.{Passes}
use Rattle.batches.proofs.Batches.{stand_by}
use Rattle.batches.proofs.back_to_back.Goals as goal

pub returns : goal.returns
returns c =
    let a = c.args in
    let first : Passes a.longest a.batch.now 0 c.least.result c.in_ok-first.first = rw c.in_ok-first.was at c.packets_to.ensures in
    let last : Passes a.longest a.batch.now c.in_ok-first.first (length a.batch.now) c.in_ok-packets_to.field-0 =
    rw c.in_ok-packets_to.was at c.packets_to-2.ensures in
    stand_by a.longest a.batch.now a.from _ _ _ first last (λ h. omega (arith, c.least.ensures))
