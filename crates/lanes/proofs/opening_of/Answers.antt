-- An access lane's opening holds of any octets that are as many as the slot says.
use Rattle.std.proofs.Common.{refl}
use Rattle.rules.specs.Reading.{lane_step}
use Rattle.lanes.proofs.opening_of.Goals as goal

pub returns-in-Access : goal.returns-in-Access
unfolding lane_step
returns-in-Access c = rw c.in-Access.is (c.access_opening.ensures _ _ c.requires.0 refl)
