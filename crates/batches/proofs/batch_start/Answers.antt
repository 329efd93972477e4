-- No batch is empty; the tests on the way are the rule's first ones, and the last call or comparison is the rest of it.
use Rattle.std.proofs.Common.{arith}
use Rattle.std.proofs.lemmas.Bool.Decides.{nat_tests}
use Rattle.batches.proofs.Batches.{packets-keep, packets-above, access-above, access-ok, batch_empty}
use Rattle.batches.proofs.batch_start.Goals as goal

pub returns-then-is_empty : goal.returns-then-is_empty
returns-then-is_empty c = batch_empty c.args.kind c.args.longest c.args.batch.now (grind (arith, nat_tests))

pub returns-in-Packets : goal.returns-in-Packets
returns-in-Packets c =
    rw c.in-Packets.is
    (packets-keep c.args.longest c.args.batch.now (grind (arith, nat_tests)) c.if-batch-le-BATCH_SIZE.true c.args.from _ c.back_to_back.ensures)

pub returns-in-Access : goal.returns-in-Access
returns-in-Access c =
    rw c.in-Access.is (access-ok c.args.longest c.args.batch.now (grind (arith, nat_tests)) c.if-batch-longest.true, tt)

pub returns-in_default-2 : goal.returns-in_default-2
returns-in_default-2 c = rw c.in-Packets.is (packets-above c.args.longest c.args.batch.now (grind (arith, nat_tests)) c.if-batch-le-BATCH_SIZE.false)

pub returns-in_default-2-2 : goal.returns-in_default-2-2
returns-in_default-2-2 c = rw c.in-Access.is (access-above c.args.longest c.args.batch.now (grind (arith, nat_tests)) c.if-batch-longest.false)
