-- What a lane's step is lent, how it begins, and what it leaves in the areas: the rule's own result, laid out.
use Rattle.std.specs.Prelude.{◌≡◌, Bool, true, false, List, [], ℕ, ◌≤◌, length, take, drop}
use Rattle.std.specs.Prelude.{Option}
use Rattle.rules.specs.declared.Info.{Info}
use Rattle.rules.specs.declared.Slot.{Slot}
use Rattle.rules.specs.Areas.{laid, joined, part_size, records_size, units_size}
use Rattle.rules.specs.Settings.{no_slot}
use Rattle.rules.specs.Reading.{no_unit, unit_from, held_in, octets_of, Made, keeps, both, become, walk, unit_fate, follow_fate, records_from}
use Rattle.rules.specs.Valid.{least, Inside, GoodSlot}
use Rattle.lanes.specs.declared.units.Stand.{Stand}
use Rattle.lanes.specs.declared.units.Terms.{Terms}
use Rattle.lanes.specs.declared.Opening.{Opening}

-- What it is lent: areas of the paper's sizes, and a zone and a slot as a valid state and a frame that is Read have them.
pub record Lent (terms : Terms) (x : Slot) (p : Option ℕ) (z d u r : List ℕ) : Type 0 where
  pub units : units_size ≤ length u
  pub records : records_size ≤ length r
  pub part : length d ≡ part_size
  pub slot : GoodSlot terms.longest x
  pub most : terms.longest ≤ 8192
  pub enough : least terms.kind ≤ terms.longest
  pub zone : length z ≤ 4086
  pub inside : Inside (length z) p

-- ---- how it begins

-- By n octets of an access unit, which begin it or follow what the slot says is held, and then so much fill.
unfoldable pub portion_opening : ℕ → Bool → Bool → Slot → ℕ → ℕ → Opening
portion_opening longest finished true x n fill =
    record { slot = no_slot; size = n; fill = fill; dropped = x.held; fate = unit_fate longest finished n; stops = true }
portion_opening longest finished false x n fill =
    record { slot = x; size = n; fill = fill; dropped = 0; fate = follow_fate longest finished x.held n; stops = true }

-- What an opening counts.
abbrev pub counted : Opening → Made
counted o = record { units = []; held = no_unit; idle = 0; fill = o.fill; dropped = o.dropped }

-- What it makes of held octets and a zone.
abbrev pub opened : Opening → List ℕ → List ℕ → Made
opened o held z = become o.fate (unit_from (held_in o.slot held) (take o.size z))

-- Where the step stops with it, that is all; else it leaves nothing held, and packets are read after it.
abbrev pub Goes : Bool → Made → Made → Made → Type 0
Goes true m a b = m ≡ a
Goes false m a b = (a.held ≡ no_unit) × (m ≡ both a b)

-- The step that makes m of them begins with it.
pub record Opens (longest : ℕ) (m : Made) (o : Opening) (held z : List ℕ) : Type 0 where
  pub few : o.slot.held ≤ length held
  pub within : o.slot.span ≤ o.slot.held
  pub inside : o.size ≤ length z
  pub rest : Made
  pub split : m ≡ both (counted o) rest
  pub goes : Goes o.stops rest (opened o held z) (walk longest (drop o.size z))

-- ---- what it leaves

-- What was made is laid out as a read's areas have it, and counted.
pub record Stepped (i : Info) (m : Made) (d u r : List ℕ) (s : Stand) (d' u' r' : List ℕ) : Type 0 where
  pub part : d' ≡ laid d 0 m.held.octets
  pub units : u' ≡ laid u 0 (joined (octets_of m.units))
  pub records : r' ≡ laid r 0 (records_from i 0 m.units)
  pub slot : s.slot ≡ keeps m
  pub count : s.tally.count ≡ length m.units
  pub octets : s.tally.octets ≡ length (joined (octets_of m.units))
  pub idle : s.tally.idle ≡ m.idle
  pub fill : s.tally.fill ≡ m.fill
  pub dropped : s.tally.dropped ≡ m.dropped
