-- The one judgement of state and frame: what is found, and how a look shows it.
use Rattle.std.specs.Prelude.{◌≡◌, true, cond, ℕ, ◌^◌, ◌<◌, List, Result, Ok, Err, Option, Some, None}
use Rattle.rules.specs.declared.Class.{Class}
use Rattle.rules.specs.declared.Looked.{Looked}
use Rattle.rules.specs.declared.Reader.{Reader}
use Rattle.rules.specs.declared.Verdict.{Verdict}
use Rattle.rules.specs.Settings.{channel, reader_ok}
use Rattle.rules.specs.Calls.{nowhere, repeats_at, missing_at, on_look}
use Rattle.judge.specs.declared.Sighting.{Sighting}
use Rattle.judge.specs.declared.Sighting.TheVariants.{Idle, Seen, Repeat}
use Rattle.judge.specs.Sights.{sight_of}
use Rattle.reader.specs.declared.Found.{Found}

-- What was seen is on a listed channel of a valid state, with a count that the channel can have.
abbrev pub Sound : Reader → Sighting → Type 0
Sound r Idle = Unit {0}
Sound r (Seen x) =
    (reader_ok r ≡ true) × (x.channel < r.setting.listed) × (x.count < 256 ^ (channel r.setting x.channel).octets)
Sound r (Repeat c) = Unit {0}

-- After the checks: what was seen with the count that was last taken on its channel is a repeat.
abbrev pub again_of : Reader → Sighting → Sighting
again_of r Idle = Idle
again_of r (Seen x) = cond (repeats_at r x.channel x.count) (Repeat x.channel) (Seen x)
again_of r (Repeat c) = Repeat c

-- How many frames are missing before one that was seen.
abbrev pub missing_for : Reader → Sighting → ℕ
missing_for r Idle = 0
missing_for r (Seen x) = missing_at r x.channel x.count
missing_for r (Repeat c) = 0

abbrev pub found_by : Result Sighting ℕ → ℕ → Result Found ℕ
found_by (Ok x) m = Ok (record { sighting = x; missing = m })
found_by (Err n) m = Err n

-- What is found of a frame of this verdict.
unfoldable pub found_of : Reader → List ℕ → Verdict → Result Found ℕ
found_of r f v = found_by (sight_of r.setting f v) (on_look v r f).missing

-- ---- how a look shows it

abbrev pub class_on : Option ℕ → Class
class_on None = Class.Counted
class_on (Some l) = Class.Read

abbrev pub shown_by : Sighting → ℕ → Looked
shown_by Idle m = record { class = Class.Idle; missing = m; channel = None; lane = None }
shown_by (Seen x) m = record { class = class_on x.lane; missing = m; channel = Some x.channel; lane = x.lane }
shown_by (Repeat c) m = record { class = Class.Repeat; missing = m; channel = Some c; lane = None }

abbrev pub shown_of : Result Found ℕ → Looked
shown_of (Ok v) = shown_by v.sighting v.missing
shown_of (Err n) = nowhere (Class.Refused n)
