-- The listing ends, and nothing is said to be listed.
use Rattle.std.proofs.Common.{refl}
use Rattle.list_worked.proofs.failed.Goals as goal

pub returns : goal.returns
returns c = refl
