-- Both sides of the demand on two runs that meet its premises: what the reads hand out and what is due are, by computation, the lists
-- worked out by hand.
use mathlib.Core.Path.{◌≡◌, refl}
use Rattle.rules.specs.Errors.{paired}
use Rattle.link.specs.Examples.{calls, wanted, mixed, long, wanted_long, got, owed, paired_lanes, mixed_lanes}
use Rattle.link.proofs.Computes.{tests, all, lists_are}

pub handed_are : got paired paired_lanes calls ≡ wanted
unfolding all tests
handed_are = lists_are (got paired paired_lanes calls) wanted refl

pub due_are : owed paired paired_lanes calls ≡ wanted
unfolding all tests
due_are = lists_are (owed paired paired_lanes calls) wanted refl

pub handed-long : got mixed mixed_lanes long ≡ wanted_long
unfolding all tests
handed-long = lists_are (got mixed mixed_lanes long) wanted_long refl

pub due-long : owed mixed mixed_lanes long ≡ wanted_long
unfolding all tests
due-long = lists_are (owed mixed mixed_lanes long) wanted_long refl
