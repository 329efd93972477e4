-- `reader::taken_of` meets its contract: the lane's slot is what it holds now, all others are as they were.
use mathlib.Core.Path.{refl}
use Rattle.reader.proofs.taken_of.Goals as goal

pub returns : goal.returns
returns c = rw c.with_slot-state.ensures refl
