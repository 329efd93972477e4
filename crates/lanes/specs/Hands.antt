-- What is lent to hand units out and to settle held octets, and what is left in the areas: the rule's own result, laid out.
use Rattle.std.specs.Prelude.{◌≡◌, List, ℕ, ◌+◌, ◌*◌, ◌≤◌, length}
use Rattle.rules.specs.declared.Info.{Info}
use Rattle.rules.specs.declared.Slot.{Slot}
use Rattle.rules.specs.Areas.{laid, joined, record_size, units_size}
use Rattle.rules.specs.Reading.{octets_of, Made, keeps, both, records_from}
use Rattle.lanes.specs.declared.units.Tally.{Tally}
use Rattle.lanes.specs.declared.units.Stand.{Stand}

-- ---- what a lane holds

-- These octets are as many as the slot says, and at least as many as the frames that carry them.
pub record Kept (x : Slot) (d : List ℕ) : Type 0 where
  pub long : length d ≡ x.held
  pub within : x.span ≤ x.held

-- ---- handing out, from a tally on

-- The unit and record areas have room for what is still to be made, and no count grows too large.
pub record Room (t : Tally) (u r : List ℕ) (m : Made) : Type 0 where
  pub octets : t.octets + length (joined (octets_of m.units)) ≤ length u
  pub records : record_size * (t.count + length m.units) ≤ length r
  pub idle : t.idle + m.idle ≤ units_size
  pub fill : t.fill + m.fill ≤ units_size
  pub dropped : t.dropped + m.dropped ≤ units_size

-- What was made is handed out: its units follow those of the tally, so do their records, and all is counted.
pub record Handed (i : Info) (t : Tally) (u r : List ℕ) (m : Made) (t' : Tally) (u' r' : List ℕ) : Type 0 where
  pub unit_area : u' ≡ laid u t.octets (joined (octets_of m.units))
  pub record_area : r' ≡ laid r (record_size * t.count) (records_from i t.octets m.units)
  pub count : t'.count ≡ t.count + length m.units
  pub octets : t'.octets ≡ t.octets + length (joined (octets_of m.units))
  pub idle : t'.idle ≡ t.idle + m.idle
  pub fill : t'.fill ≡ t.fill + m.fill
  pub dropped : t'.dropped ≡ t.dropped + m.dropped

-- Of the whole, something is handed out, and the rest is still to be made.
pub record Begun (i : Info) (t : Tally) (u r : List ℕ) (whole rest : Made) (t' : Tally) (u' r' : List ℕ) : Type 0 where
  pub sofar : Made
  pub split : whole ≡ both sofar rest
  pub handed : Handed i t u r sofar t' u' r'

-- ---- a part of a lane's step, from a tally on

-- What the lane holds is in its part, with an octet for each frame that carries it; there is room for what is to be made of it and of z, and both are
-- few enough to count.
pub record Ready (s : Stand) (u r d z : List ℕ) (m : Made) : Type 0 where
  pub room : Room s.tally u r m
  pub held : length m.held.octets ≤ length d
  pub inside : s.slot.held ≤ length d
  pub within : s.slot.span ≤ s.slot.held
  pub few : length d + length z ≤ units_size

-- What was made is handed out, what is held now stands at the front of the lane's part, and the slot says it.
pub record Went (i : Info) (t : Tally) (u r d : List ℕ) (m : Made) (s : Stand) (u' r' d' : List ℕ) : Type 0 where
  pub handed : Handed i t u r m s.tally u' r'
  pub part : d' ≡ laid d 0 m.held.octets
  pub slot : s.slot ≡ keeps m
