-- Whose turn it is, what a lane's file has, and a round of turns.
use Rattle.std.specs.Prelude.{ℕ, ◌+◌, ◌≡◌, Bool, true, false, cond, Option, Some, None, List, get_or, set, replicate}
use Rattle.std.specs.List.{list_any}
use Rattle.rules.specs.Tests.{◌<?◌}
use Rattle.rules.specs.declared.Kind.{Kind}
use Rattle.rules.specs.declared.Kind.TheVariants as kinds
use Rattle.streams.specs.declared.Form.{Form}
use Rattle.streams.specs.declared.Form.TheVariants as forms
use Rattle.streams.specs.Streams.{sound}
use Rattle.intake.specs.declared.Window.{Window}
use Rattle.turns.specs.declared.Course.{Course}
use Rattle.turns.specs.declared.Source.{Source}
use Rattle.turns.specs.declared.Move.{Move}
use Rattle.turns.specs.Turns.{TakenAt}
use Rattle.pack.specs.declared.Files.{Files}
use Rattle.pack.specs.declared.Place.{Place}

-- "An access lane's file is one unit; or, with a list, the list's units."
unfoldable pub form_of : Kind → Bool → Form
form_of kinds.Packets listed = forms.Packets
form_of kinds.Access listed = cond listed forms.Units forms.Unit

-- "In the order of the words, and again from the first": of so many files, eight at most, the one after file k.
unfoldable pub next_place : ℕ → ℕ → ℕ
next_place k count = cond ((k + 1) <? count) (cond ((k + 1) <? 8) (k + 1) 0) 0

-- ---- a round: turn after turn, each a frame

abbrev pub no_window : Window
no_window = record { have = 0; at = 0; good = false }

abbrev pub no_source : Source
no_source = record {
  stream = record { window = no_window; list = no_window; batch = 0; lane = 0; longest = 0; form = forms.Packets };
  name = 0;
  list_name = 0;
  ocf = 0;
  more = false;
}

-- File k of these; where there is none, one of zeros, which is at its end.
abbrev pub file_of : Files → ℕ → Source
file_of f k = get_or f.sources k no_source

-- The same files, with file k as its turn left it.
abbrev pub with_file : Files → ℕ → Source → Files
with_file f k x = record { sources = set f.sources k x; count = f.count }

-- One of the files may have more.
unfoldable pub any_more : Files → Bool
any_more f = list_any (λ x. x.more) f.sources

-- "A file that is at its end drops out": turns go on while nothing is wrong and a file may have more.
unfoldable pub has_next : Course → Files → Bool
has_next c f = cond (sound c.fault) (any_more f) false

-- Whose turn is next after file k's, if there is a next one.
unfoldable pub next_turn : Course → Files → ℕ → Option ℕ
next_turn c f k = cond (has_next c f) (Some (next_place k f.count)) None

-- Where a round is after the turn of file k, which left this.
abbrev pub place_after : Place → ℕ → Move → Place
place_after p k m = record {
  course = m.course;
  files = with_file p.files k m.source;
  last = k;
  next = next_turn m.course (with_file p.files k m.source) k;
}

-- The turn of file k.
pub record Stepped (writing : Bool) (p : Place) (k : ℕ) (insert ocf areas lists : List ℕ) (q : Place) (areas' lists' : List ℕ) : Type 0 where
  pub move : Move
  pub taken : TakenAt k writing p.course (file_of p.files k) insert ocf areas lists move areas' lists'
  pub place : q ≡ place_after p k move

-- So many turns dealt out from this course on, with these files and windows of zeros, after each of which there was a next: whose turn that is,
-- and the course, the files and the windows that it is handed, which are those that the turn before left.
pub data Dealt (writing : Bool) (c₀ : Course) (f₀ : Files) (insert ocf : List ℕ) : ℕ → ℕ → Course → Files → List ℕ → List ℕ → Type 0 where
  begun : Dealt writing c₀ f₀ insert ocf 0 0 c₀ f₀ (replicate 524288 0) (replicate 2048 0)
  turn : {n k : ℕ} {c : Course} {f : Files} {areas lists : List ℕ} {m : Move} {areas' lists' : List ℕ} → Dealt writing c₀ f₀ insert ocf n k c f areas lists
      → TakenAt k writing c (file_of f k) insert ocf areas lists m areas' lists' → has_next m.course (with_file f k m.source) ≡ true
      → Dealt writing c₀ f₀ insert ocf (n + 1) (next_place k f.count) m.course (with_file f k m.source) areas' lists'

-- A round to this course: after the turns that were dealt out comes the last one, of the file that is named as the last, and the course is the
-- one that it leaves. After that one there is no next, or turns were counted to a number that no run reaches. What was read in each turn stands
-- open.
pub record Rounded (writing : Bool) (c₀ : Course) (f₀ : Files) (insert ocf : List ℕ) (c' : Course) (last : ℕ) : Type 0 where
  pub before : Course
  pub files : Files
  pub areas : List ℕ
  pub lists : List ℕ
  pub turns : ℕ
  pub dealt : Dealt writing c₀ f₀ insert ocf turns last before files areas lists
  pub move : Move
  pub areas' : List ℕ
  pub lists' : List ℕ
  pub taken : TakenAt last writing before (file_of files last) insert ocf areas lists move areas' lists'
  pub course : c' ≡ move.course
  pub over : has_next c' (with_file files last move.source) ≡ true → turns + 1 ≡ 18446744073709551615

-- These files were gone through, in a round from one course to the other.
pub record Passed (writing : Bool) (c : Course) (f : Files) (insert ocf : List ℕ) (c' : Course) : Type 0 where
  pub last : ℕ
  pub rounded : Rounded writing c f insert ocf c' last
