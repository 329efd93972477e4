-- What unpack carries from frame to frame.
use Rattle.std.specs.Prelude.{ℕ, ◌+◌, ◌*◌, ◌≤◌, ◌<◌, ◌≡◌, Bool, true, false, cond, not, List, [], ◌∷◌, length, take, replicate, Option, Some, None, Result, Ok, Err, is_ok}
use Rattle.std.specs.Option.{unwrap_or}
use Rattle.rules.specs.declared.Answer.{Answer}
use Rattle.rules.specs.declared.Passed.{Passed}
use Rattle.rules.specs.declared.Reader.{Reader}
use Rattle.rules.specs.declared.Setting.{Setting}
use Rattle.rules.specs.declared.Verdict.{Verdict}
use Rattle.rules.specs.Tests.{◌=?◌}
use Rattle.rules.specs.Settings.{reader_ok}
use Rattle.rules.specs.Calls.{set_up_reader, Got, look}
use Rattle.rules.specs.Passes.{whose, left_out, pass}
use Rattle.unpack_text.specs.Lines.{frame_line}
use Rattle.refusals.specs.declared.Totals.{Totals}
use Rattle.refusals.specs.Counts.{totalled, passed_over, no_totals}
use Rattle.unit_table.specs.declared.Origin.{Origin}
use Rattle.unit_table.specs.Rows.{origin_of}
use Rattle.unpack.specs.declared.each_frame.Areas.{Areas}
use Rattle.unpack.specs.declared.each_frame.Failure.{Failure}
use Rattle.unpack.specs.declared.each_frame.Failure.TheVariants.{NotRead}
use Rattle.unpack.specs.declared.each_frame.Step.{Step}
use Rattle.unpack.specs.declared.each_frame.Turn.{Turn}
use Rattle.rules.specs.Areas.{held_size, record_size, records_size, units_size}

-- Which virtual channels are left out, the reader's state, the areas, and the totals.
pub record Stage : Type 0 where
  pub without : List Bool
  pub reader : Reader
  pub held : List ℕ
  pub units : List ℕ
  pub records : List ℕ
  pub totals : Totals

unfoldable pub got : Stage → List ℕ → Got
got g f = pass g.without g.reader f g.held g.units g.records

unfoldable pub ruled : Stage → List ℕ → Verdict
ruled g f = whose (look g.reader f)

unfoldable pub leaves : Stage → List ℕ → Bool
leaves g f = left_out g.without g.reader.setting (look g.reader f)

unfoldable pub told : Stage → List ℕ → Answer
told g f = (got g f).taken.answer

-- The totals with one frame more, which was left out or not.
unfoldable pub totals_after : Bool → Setting → Totals → Verdict → Answer → List ℕ → Totals
totals_after true s t v a f = passed_over t
totals_after false s t v a f = totalled s t v a f

-- After one frame more: what the rules' pass leaves, and the totals with its answer.
unfoldable pub advanced : Stage → List ℕ → Stage
advanced g f =
    record {
      without = g.without;
      reader = (got g f).taken.state;
      held = (got g f).held_area;
      units = (got g f).unit_area;
      records = (got g f).record_area;
      totals = totals_after (leaves g f) g.reader.setting g.totals (ruled g f) (told g f) f;
    }

-- After these frames, in order.
unfoldable pub through : Stage → List (List ℕ) → Stage
through g [] = g
through g (f ∷ fs) = through (advanced g f) fs

-- Before the first.
unfoldable pub begun : List Bool → Setting → Stage
begun w s =
    record {
      without = w;
      reader = (set_up_reader s).state;
      held = replicate held_size 0;
      units = replicate units_size 0;
      records = replicate records_size 0;
      totals = no_totals;
    }

-- The rules' reading of k frames from one stage on comes to another, whose state is valid.
pub record Reached (g₀ : Stage) (k : ℕ) (g : Stage) : Type 0 where
  pub frames : List (List ℕ)
  pub many : length frames ≡ k
  pub stage : g ≡ through g₀ frames
  pub valid : reader_ok g.reader ≡ true

-- Frame k, of which this came from this state: state and totals after it, whose it is, its answer, where its units come from, and whether it was left
-- out.
unfoldable pub step_of : ℕ → Reader → Totals → Passed → List ℕ → Step
step_of k r t w f =
    record {
      state = w.taken.state;
      totals = totals_after w.left r.setting t (whose w.looked) w.taken.answer f;
      verdict = whose w.looked;
      answer = w.taken.answer;
      origin = origin_of r.setting t.tally k (whose w.looked);
      left = w.left;
    }

-- Areas in which a turn has room, and a frame number that another one follows.
pub record AreasFit (k : ℕ) (u c : List ℕ) : Type 0 where
  pub more : k < 18446744073709551615
  pub units : units_size ≤ length u
  pub records : records_size ≤ length c

-- ---- what is handed to the system, and what it answers

-- A lane's units go to its output. Other frames have none.
unfoldable pub output_of : Verdict → Option ℕ
output_of (Verdict.Refused n) = None
output_of Verdict.Idle = None
output_of (Verdict.Counted c) = None
output_of (Verdict.Read l) = Some l
output_of (Verdict.Repeat c) = None

-- The unit and record areas as the rules' pass of a frame, with this verdict and answer, left out or not, leaves them, with room for what it gave; and
-- where its units come from.
pub record Gave (o : Origin) (l : Bool) (v : Verdict) (a : Answer) (u c : List ℕ) : Type 0 where
  pub stage : Stage
  pub frame : List ℕ
  pub left : l ≡ leaves stage frame
  pub whose : v ≡ ruled stage frame
  pub answer : a ≡ told stage frame
  pub origin : o ≡ origin_of stage.reader.setting stage.totals.tally o.frame v
  pub units : u ≡ (advanced stage frame).units
  pub records : c ≡ (advanced stage frame).records
  pub room : (a.octets ≤ length u) × (record_size * a.units ≤ records_size) × (records_size ≤ length c)

-- The octets that are handed out for a frame: its line, and the front of the unit and record areas as the rules' pass of a frame, with this
-- verdict and answer, leaves them; and where its units come from.
pub record Handed (o : Origin) (v : Verdict) (a : Answer) (l u c : List ℕ) : Type 0 where
  pub stage : Stage
  pub frame : List ℕ
  pub line : l ≡ frame_line o.frame (leaves stage frame) v a
  pub whose : v ≡ ruled stage frame
  pub answer : a ≡ told stage frame
  pub origin : o ≡ origin_of stage.reader.setting stage.totals.tally o.frame v
  pub units : u ≡ take a.octets (advanced stage frame).units
  pub records : c ≡ take (record_size * a.units) (advanced stage frame).records

-- How a turn went with the system.
abbrev pub Went : Type 0
Went = Result (Unit {0}) Failure

-- There may be more after a whole frame, if all went well.
unfoldable pub goes_on : Bool → Went → Bool
goes_on whole w = cond whole (is_ok w) false

-- ---- turns

-- Which virtual channels are left out, with what a turn and the areas are.
unfoldable pub stage_of : List Bool → Turn → Areas → Stage
stage_of w u m = record { without = w; reader = u.state; held = m.held; units = m.units; records = m.records; totals = u.totals }

-- Areas of the same lengths.
abbrev pub SameSizes : Areas → Areas → Type 0
SameSizes m m' = (length m'.units ≡ length m.units) × (length m'.records ≡ length m.records)

-- "Reads the recording's frames, F octets each, to its end (a last frame that is short is a frame too ...)": what came is a frame.
unfoldable pub taken : Option ℕ → Bool
taken c = not (unwrap_or c 0 =? 0)

-- A turn in which a frame of so many octets came: one frame more.
unfoldable pub taken_turn : Turn → ℕ → Reader → Totals → Went → Turn
taken_turn u n r t w =
    record { state = r; totals = t; count = u.count + 1; came = Some n; went = w; more = goes_on (n =? u.state.setting.length) w }

-- "A recording that cannot be read is told apart from its end."
unfoldable pub ending_of : Option ℕ → Went
ending_of None = Err NotRead
ending_of (Some n) = Ok tt

-- A turn in which none came: nothing changes.
unfoldable pub halted_turn : Turn → Option ℕ → Turn
halted_turn u c = record { state = u.state; totals = u.totals; count = u.count; came = c; went = ending_of c; more = false }

-- A turn with this frame of so many octets, up to how the writes went.
pub record Handled (u : Turn) (n : ℕ) (g : Stage) (f : List ℕ) (u' : Turn) (g' : Stage) : Type 0 where
  pub stage : g' ≡ advanced g f
  pub turn : u' ≡ taken_turn u n g'.reader g'.totals u'.went

-- A turn in which this came into the frame area, up to how the writes went: the frame is what came.
pub record Turned (u : Turn) (c : Option ℕ) (g : Stage) (area : List ℕ) (u' : Turn) (g' : Stage) : Type 0 where
  pub stage : g' ≡ cond (taken c) (advanced g (take (unwrap_or c 0) area)) g
  pub turn : u' ≡ cond (taken c) (taken_turn u (unwrap_or c 0) g'.reader g'.totals u'.went) (halted_turn u c)

-- Before the first.
unfoldable pub first_turn : Setting → Turn
first_turn s = record { state = (set_up_reader s).state; totals = no_totals; count = 0; came = Some 0; went = Ok tt; more = true }

-- State and totals after k frames from the beginning, with areas that are no longer lent.
pub record Finished (w : List Bool) (s : Setting) (k : ℕ) (r : Reader) (t : Totals) : Type 0 where
  pub held : List ℕ
  pub units : List ℕ
  pub records : List ℕ
  pub reached : Reached (begun w s) k (record { without = w; reader = r; held = held; units = units; records = records; totals = t })
