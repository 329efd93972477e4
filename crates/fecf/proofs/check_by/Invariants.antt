-- `fecf::check_by` meets its contract: the register after all octets is that after the rest, from the register so far.
use Rattle.std.proofs.Common.{◌≡◌, ◌%◌, drop}
use Rattle.fecf.specs.Remainders.{from_by}
use Rattle.fecf.proofs.check_by.Given as goal

abbrev pub invariant-loop-x : goal.invariant-loop-x
invariant-loop-x l = from_by l.table l.first l.octets ≡ from_by l.table (l.r % 0x10000) (drop l.x-index l.octets)
