-- `fecf::carry_far` meets its contract: over the octets that are left, the long register so far comes to what it has to be.
use Rattle.std.proofs.Common.{◌≡◌, take}
use Rattle.std.specs.Slice.Iter.{chunks_exact_rest, chunks_exact_size}
use Rattle.fecf.specs.Folds.{carried}
use Rattle.fecf.proofs.Turns.{Blocks}
use Rattle.fecf.proofs.carry_far.Given as goal

abbrev pub invariant-loop-block : goal.invariant-loop-block
invariant-loop-block l = record {
  passed : Blocks l.octets (chunks_exact_rest l.block-iterator);
  size : chunks_exact_size l.block-iterator ≡ 512;
  so_far : carried 16 (take 256 l.initial.area) l.octets ≡ carried 16 (take 256 l.area) (chunks_exact_rest l.block-iterator);
}
