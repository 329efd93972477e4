-- `fecf::check_256` meets its contract: 128 to 256 octets made shorter by the generator's 64th power.
use Rattle.std.proofs.Common.{rules}
use Rattle.fecf.specs.Folds.{shortest}
use Rattle.fecf.proofs.check_256.Goals as goal

pub returns : goal.returns
unfolding shortest
returns c = search rules
