-- How a walk over a zone ends, and a run of E0 octets.
use Rattle.std.specs.Prelude.{◌≡◌, List, ℕ, ◌≤◌, ◌<◌, length, get_or, drop}
use Rattle.rules.specs.declared.Info.{Info}
use Rattle.rules.specs.Reading.{unit_of, Made, nothing, holds, drops}
use Rattle.lanes.specs.declared.units.Tally.{Tally}
use Rattle.lanes.specs.Hands.{Begun}
use Rattle.lanes.specs.declared.walks.Walk.{Walk}
use Rattle.lanes.specs.declared.walks.Walk.TheVariants.{Finished, Held, Dropped}
use Rattle.lanes.specs.declared.walks.Walked.{Walked}

-- What is still to be made of the zone.
abbrev pub ended : List ℕ → Walk → Made
ended z Finished = nothing
ended z (Held at) = holds (unit_of (drop at z))
ended z (Dropped at) = drops (length (drop at z))

-- It is not past a zone of n octets, and what is held there has one at least.
abbrev pub Within : ℕ → Walk → Type 0
Within n Finished = Unit {0}
Within n (Held at) = at < n
Within n (Dropped at) = at ≤ n

-- A walk left only what its end says.
pub record Left (i : Info) (t : Tally) (u r z : List ℕ) (whole : Made) (w : Walked) (u' r' : List ℕ) : Type 0 where
  pub within : Within (length z) w.end
  pub begun : Begun i t u r whole (ended z w.end) w.tally u' r'

-- From octet `from` on up to octet `to` there are E0 octets only.
pub record Run (z : List ℕ) (from to : ℕ) : Type 0 where
  pub begins : from ≤ to
  pub inside : to ≤ length z
  pub each : (i : ℕ) → from ≤ i → i < to → get_or z i 0 ≡ 0xE0
