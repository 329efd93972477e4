-- It writes nothing.
use Rattle.std.proofs.Common.{refl}
use Rattle.pack.specs.Sources.{look_way}
use Rattle.pack.proofs.looking.Goals as goal

pub returns : goal.returns
unfolding look_way
returns c = refl
