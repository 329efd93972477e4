-- `gaps::Awaited::on` meets its contract. A valid state has a listed channel among its eight, with counts of at most seven octets.
use Rattle.std.proofs.Common.{rules}
use Rattle.gaps.proofs.Gaps.{takes}
use Rattle.gaps.proofs.Awaited.on.Goals as goal

pub expect_of-requires : goal.expect_of-requires
expect_of-requires c = (takes c.args.r c.args.c c.requires.0 c.requires.1).eight

pub offset_bounds-channels-c : goal.offset_bounds-channels-c
offset_bounds-channels-c c = let q = (takes c.args.r c.args.c c.requires.0 c.requires.1).eight in search rules

pub bounds-channels-c : goal.bounds-channels-c
bounds-channels-c c = (takes c.args.r c.args.c c.requires.0 c.requires.1).eight

pub invariant_of-result : goal.invariant_of-result
invariant_of-result c =
    let t = takes c.args.r c.args.c c.requires.0 c.requires.1 in record { fits = (t.seven, rw c.expect_of.ensures t.count) }
