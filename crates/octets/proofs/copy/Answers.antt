-- `octets::copy` meets its contract: as many octets as both have are copied.
use Rattle.std.proofs.Common.{rules}
use Rattle.octets.proofs.Turns.{copied_front}
use Rattle.octets.proofs.copy.Goals as goal

pub returns : goal.returns
returns c = copied_front c.args.dst.now c.args.src.now c.copy_from_slice.new.self c.min-n.result (search rules) (search rules)
