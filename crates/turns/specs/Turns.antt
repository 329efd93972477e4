-- A file's turn: its batch is the next of what its windows hold, a frame of it is sent, and after the last the window holds what is behind it.
use Rattle.std.specs.Prelude.{ℕ, ◌*◌, ◌≡◌, Bool, true, false, cond, List, length, take, drop}
use Rattle.rules.specs.Areas.{laid}
use Rattle.streams.specs.declared.Stream.{Stream}
use Rattle.streams.specs.declared.Begun.{Begun}
use Rattle.streams.specs.Streams.{sound, moved, Kept, Began}
use Rattle.turns.specs.declared.Course.{Course}
use Rattle.turns.specs.declared.Step.{Step}
use Rattle.turns.specs.declared.Source.{Source}
use Rattle.turns.specs.declared.Move.{Move}
use Rattle.turns.specs.Courses.{ended, CourseOn, goes_on, counted}

-- The file after its batch, whose window held so many octets.
unfoldable pub worked : Stream → ℕ → Stream
worked s have = record { window = moved s.window have s.batch; list = s.list; batch = 0; lane = s.lane; longest = s.longest; form = s.form }

-- A batch that is over: the window holds what was behind it.
pub record Over (d : Course) (s : Stream) (area : List ℕ) (r : Step) (area' : List ℕ) : Type 0 where
  pub course : r.course ≡ counted d s.batch
  pub stream : r.stream ≡ worked s (length (take s.window.have area))
  pub more : r.more ≡ sound d.fault
  pub left : take r.stream.window.have area' ≡ drop s.batch (take s.window.have area)

-- A batch that goes on: file and window stay.
pub record On (d : Course) (s : Stream) (area : List ℕ) (r : Step) (area' : List ℕ) : Type 0 where
  pub turn : r ≡ record { course = d; stream = s; more = true }
  pub stays : area' ≡ area

-- The next frame of the batch at the front of the window.
pub record Worked (writing : Bool) (c : Course) (s : Stream) (insert ocf area : List ℕ) (r : Step) (area' : List ℕ) : Type 0 where
  pub sent : Course
  pub course : CourseOn writing c s.lane (take s.batch area) insert ocf sent
  pub after : cond (goes_on sent s.lane) (On sent s area r area') (Over sent s area r area')

-- A turn: with the batch that is being worked off, with the next one, or, where there is none, with nothing but what is wrong, if anything is.
pub data Turned (writing : Bool) (c : Course) (s : Stream) (insert ocf area list : List ℕ) (r : Step) (area' list' : List ℕ) : Type 0 where
  on : (s.batch ≡ 0 → ⊥) → list' ≡ list → Worked writing c s insert ocf area r area' → Turned writing c s insert ocf area list r area' list'
  begun : {b : Begun} → s.batch ≡ 0 → Began s (take s.window.have area) list b list' → (b.stream.batch ≡ 0 → ⊥)
      → Worked writing c b.stream insert ocf area r area' → Turned writing c s insert ocf area list r area' list'
  none : {b : Begun} → s.batch ≡ 0 → Began s (take s.window.have area) list b list' → b.stream.batch ≡ 0 → area' ≡ area
      → r ≡ record { course = ended c b.fault; stream = b.stream; more = false } → Turned writing c s insert ocf area list r area' list'

-- What was read before a turn: nothing where a batch is being worked off; otherwise it stands behind what the windows held.
pub record Filled (s : Stream) (area list : List ℕ) (r : Stream) (area' list' : List ℕ) : Type 0 where
  pub stream : r ≡ record { window = r.window; list = r.list; batch = 0; lane = s.lane; longest = s.longest; form = s.form }
  pub window : Kept s.window area r.window area'
  pub listed : Kept s.list list r.list list'

pub data ReadOn (s : Stream) (area list : List ℕ) (r : Stream) (area' list' : List ℕ) : Type 0 where
  same : (s.batch ≡ 0 → ⊥) → r ≡ s → area' ≡ area → list' ≡ list → ReadOn s area list r area' list'
  filled : s.batch ≡ 0 → Filled s area list r area' list' → ReadOn s area list r area' list'

unfoldable pub after_turn : Source → Step → Move
after_turn x t = record {
  course = t.course;
  source = record {
    stream = t.stream;
    name = x.name;
    list_name = x.list_name;
    ocf = x.ocf;
    more = t.more;
  };
}

-- A turn after what was read, with as many OCF octets as the lane's channel has.
pub record ReadTurn (writing : Bool) (c : Course) (x : Source) (insert ocf area list : List ℕ) (r : Step) (area' list' : List ℕ) : Type 0 where
  pub stream : Stream
  pub between : List ℕ
  pub listed : List ℕ
  pub read : ReadOn x.stream area list stream between listed
  pub turned : Turned writing c stream insert (take x.ocf ocf) between listed r area' list'

-- "A file that is at its end drops out." Any other has its turn.
pub data Taken (writing : Bool) (c : Course) (x : Source) (insert ocf area list : List ℕ) (r : Move) (area' list' : List ℕ) : Type 0 where
  out : x.more ≡ false → r ≡ record { course = c; source = x } → area' ≡ area → list' ≡ list → Taken writing c x insert ocf area list r area' list'
  moves : {t : Step} → x.more ≡ true → ReadTurn writing c x insert ocf area list t area' list' → r ≡ after_turn x t
      → Taken writing c x insert ocf area list r area' list'

-- File k's window is the k-th 65,536 octets, the one on its list the k-th 256.
abbrev pub own : ℕ → ℕ → List ℕ → List ℕ
own size k areas = take size (drop (size * k) areas)

-- The turn of file k: its own windows change, and all other octets stay.
pub record TakenAt (k : ℕ) (writing : Bool) (c : Course) (x : Source) (insert ocf areas lists : List ℕ) (r : Move) (areas' lists' : List ℕ) : Type 0 where
  pub area : List ℕ
  pub list : List ℕ
  pub taken : Taken writing c x insert ocf (own 65536 k areas) (own 256 k lists) r area list
  pub window : areas' ≡ laid areas (65536 * k) area
  pub listed : lists' ≡ laid lists (256 * k) list
