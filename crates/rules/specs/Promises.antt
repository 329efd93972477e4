-- What each call promises: a relation between everything that it is handed and everything that it hands back or leaves in an area lent.
-- The answer is told in the paper's terms: "Where an answer is an enum, a definition sets out this paper's number and values for each of
-- its cases. The promises use that definition."
use Rattle.std.specs.Prelude.{◌≡◌, ℕ, ◌+◌, ◌*◌, Bool, false, cond, not, ◌||◌, List, [], ◌∷◌, length, Result, Ok, Err, Option, Some, None}
use Rattle.rules.specs.declared.Setting.{Setting}
use Rattle.rules.specs.declared.Reader.{Reader}
use Rattle.rules.specs.declared.Writer.{Writer}
use Rattle.rules.specs.declared.Refusal.{Refusal}
use Rattle.rules.specs.declared.Class.{Class}
use Rattle.rules.specs.declared.Answer.{Answer}
use Rattle.rules.specs.declared.Taken.{Taken}
use Rattle.rules.specs.declared.Looked.{Looked}
use Rattle.rules.specs.declared.Listener.{Listener}
use Rattle.rules.specs.declared.Sender.{Sender}
use Rattle.rules.specs.declared.Gap.{Gap}
use Rattle.rules.specs.Tests.{◌=?◌, none, Row, refuse, given}
use Rattle.rules.specs.Areas.{laid, joined, part_size}
use Rattle.rules.specs.Settings.{channel, lane, with_slot, count, number, setting_ok, fresh_reader, fresh_writer, no_reader, no_writer}
use Rattle.rules.specs.Frames.{vc, map, bypass, command, count_in}
use Rattle.rules.specs.Writing.{frame_of, writer_after}
use Rattle.rules.specs.Reading.{gap, octets_of, Made, keeps, records_from, info_of}
use Rattle.rules.specs.Refusals.{channel_at, lane_at}
use Rattle.rules.specs.Calls.{refusal_of, class_refusal, write_refusals, read_refusals, made_by, look_refusals, missing_at, repeats_at}

-- ---- "Reader 1 to 12; writer 1, 2, 13 to 16; set-up 1."

abbrev pub reader_numbers : List ℕ
reader_numbers = 1 ∷ 2 ∷ 3 ∷ 4 ∷ 5 ∷ 6 ∷ 7 ∷ 8 ∷ 9 ∷ 10 ∷ 11 ∷ 12 ∷ []

abbrev pub writer_numbers : List ℕ
writer_numbers = 1 ∷ 2 ∷ 13 ∷ 14 ∷ 15 ∷ 16 ∷ []

abbrev pub set_up_numbers : List ℕ
set_up_numbers = 1 ∷ []

-- "Looking is lent no areas and never gives 2" (document 02, A7).
abbrev pub look_numbers : List ℕ
look_numbers = 1 ∷ 3 ∷ 4 ∷ 5 ∷ 6 ∷ 7 ∷ 8 ∷ 9 ∷ 10 ∷ 11 ∷ 12 ∷ []

-- The number is one of these.
unfoldable pub among : ℕ → List ℕ → Bool
among n [] = false
among n (m ∷ ms) = n =? m || among n ms

-- ---- set-up and write: what each outcome says

-- "The first that applies is given, and none otherwise." An outcome is told by its number, and none is done.
pub record Told (rows : List Row) (o : Result Unit Refusal) : Type 0 where
  pub refusal : refusal_of o ≡ given rows
  pub done : given rows ≡ 0 → o ≡ Ok tt

-- What each outcome leaves. Where it is refused, "states and areas stay unchanged": what there was before.
unfoldable pub outcome_leaves {ℓ} : {A : Type ℓ} → Result Unit Refusal → A → A → A
outcome_leaves (Ok x) before after = after
outcome_leaves (Err e) before after = before

-- ---- set-up

-- "Setting or state not valid."
unfoldable pub set_up_refusals : Setting → List Row
set_up_refusals s = refuse Refusal.Invalid (not (setting_ok s)) ∷ []

-- "A refused set-up returns a state of zeros."
pub record ReaderStarts (s : Setting) (o : Listener) : Type 0 where
  pub told : Told (set_up_refusals s) o.outcome
  pub state : o.state ≡ outcome_leaves o.outcome no_reader (fresh_reader s)

pub record WriterStarts (s : Setting) (o : Sender) : Type 0 where
  pub told : Told (set_up_refusals s) o.outcome
  pub state : o.state ≡ outcome_leaves o.outcome no_writer (fresh_writer s)

-- ---- write

-- "The call writes the lane's next frame into the first F octets and leaves later ones untouched."
pub record WriteGives (w : Writer) (l : ℕ) (batch insert ocf area : List ℕ) (o : Sender) (area' : List ℕ) : Type 0 where
  pub told : Told (write_refusals w l batch insert ocf area) o.outcome
  pub state : o.state ≡ outcome_leaves o.outcome w (writer_after w l batch)
  pub frame :
      area'
      ≡ outcome_leaves o.outcome area
      (laid area 0 (frame_of w.setting l (count w (lane w.setting l).channel) batch insert ocf (number w l)))

-- ---- read: what a frame that passes the checks is, and what is made of it

-- The number that a place is; 0 where there is none.
abbrev pub placed : Option ℕ → ℕ
placed (Some i) = i
placed None = 0

-- The place of the frame's channel, by virtual channel and service, and the number of its map's lane there.
unfoldable pub channel_in : Setting → List ℕ → ℕ
channel_in s f = placed (channel_at s (vc f) (bypass f))

unfoldable pub lane_in : Setting → List ℕ → ℕ
lane_in s f = placed (lane_at s (channel_in s f) (map f))

-- The frame's count.
unfoldable pub count_of : Setting → List ℕ → ℕ
count_of s f = count_in (channel s (channel_in s f)) f

-- "Idle: virtual channel 63; ... Counted: control command set, or the map is in no lane of that channel; ... Read: all else." But "a frame whose
-- count equals the last one taken on its channel gets the class repeat" (document 02, A3), be it a Counted one or a Read one.
unfoldable pub class_in : Reader → List ℕ → Class
class_in r f =
    cond (vc f =? 63) Class.Idle
    (cond (repeats_at r (channel_in r.setting f) (count_of r.setting f)) Class.Repeat
    (cond (command f =? 1 || none (lane_at r.setting (channel_in r.setting f) (map f))) Class.Counted Class.Read))

-- The frame's count taken, and what its lane then makes of its zone.
unfoldable pub gap_in : Reader → List ℕ → Gap
gap_in r f = gap r (channel_in r.setting f) (count_of r.setting f)

unfoldable pub made_in : Reader → List ℕ → List ℕ → Made
made_in r f h = made_by (gap_in r f) (lane_in r.setting f) (channel r.setting (channel_in r.setting f)) f h

-- ---- read: each class's values

-- "The answer gives class, units, unit octets, missing, idle octets, fill octets and dropped octets (all lanes together)."
pub record Values : Type 0 where
  pub units : ℕ
  pub octets : ℕ
  pub missing : ℕ
  pub idle : ℕ
  pub fill : ℕ
  pub dropped : ℕ

unfoldable pub values_in : Answer → Values
values_in a =
    record { units = a.units; octets = a.octets; missing = a.missing; idle = a.idle; fill = a.fill; dropped = a.dropped }

abbrev pub zero_counts : Values
zero_counts = record { units = 0; octets = 0; missing = 0; idle = 0; fill = 0; dropped = 0 }

-- Idle: "all counts are 0." Counted: "its count is taken and its data field is not read." Repeat: "with all counts 0." Refused: "its number and zero
-- counts."
unfoldable pub class_values : Class → Gap → Made → Values
class_values Class.Idle g m = zero_counts
class_values Class.Counted g m = record { units = 0; octets = 0; missing = g.missing; idle = 0; fill = 0; dropped = g.dropped }
class_values Class.Read g m =
    record {
      units = length m.units;
      octets = length (joined (octets_of m.units));
      missing = g.missing;
      idle = m.idle;
      fill = m.fill;
      dropped = g.dropped + m.dropped;
    }
class_values Class.Repeat g m = zero_counts
class_values (Class.Refused n) g m = zero_counts

-- Idle: "the state stays." Counted: "its count is taken." Repeat: "the state unchanged." Refused: "states and areas stay unchanged."
unfoldable pub class_state : Class → Reader → Gap → ℕ → Made → Reader
class_state Class.Idle r g l m = r
class_state Class.Counted r g l m = g.state
class_state Class.Read r g l m = with_slot g.state l (keeps m)
class_state Class.Repeat r g l m = r
class_state (Class.Refused n) r g l m = r

-- An area that only a frame that is Read changes.
unfoldable pub class_area : Class → List ℕ → List ℕ → List ℕ
class_area Class.Idle before after = before
class_area Class.Counted before after = before
class_area Class.Read before after = after
class_area Class.Repeat before after = before
class_area (Class.Refused n) before after = before

pub record ReadGives (r : Reader) (f h u c : List ℕ) (o : Taken) (h' u' c' : List ℕ) : Type 0 where
  -- "The first that applies is given, and none otherwise."
  pub refusal : class_refusal o.answer.class ≡ given (read_refusals r f h u c)
  -- "A frame that passes the checks is one of three", or a repeat.
  pub class : given (read_refusals r f h u c) ≡ 0 → o.answer.class ≡ class_in r f
  pub values : values_in o.answer ≡ class_values o.answer.class (gap_in r f) (made_in r f h)
  pub state : o.state ≡ class_state o.answer.class r (gap_in r f) (lane_in r.setting f) (made_in r f h)
  -- "In the held area only the octets that the Read lane holds after the call may change."
  pub held : h' ≡ class_area o.answer.class h (laid h (part_size * lane_in r.setting f) (made_in r f h).held.octets)
  -- "Units stand back to back from the start of the unit area, each with one ... record." "Areas past these are untouched."
  pub units : u' ≡ class_area o.answer.class u (laid u 0 (joined (octets_of (made_in r f h).units)))
  pub records :
      c'
      ≡ class_area o.answer.class c
      (laid c 0 (records_from (info_of r.setting (lane_in r.setting f) (count_of r.setting f)) 0 (made_in r f h).units))

-- ---- look: each class's values

-- "Missing = (count - expected) modulo 256^n, and 0 if none was expected", of the frame's channel and count.
unfoldable pub missing_in : Reader → List ℕ → ℕ
missing_in r f = missing_at r (channel_in r.setting f) (count_of r.setting f)

-- "For Counted and Read"; a repeat has "all counts 0".
unfoldable pub class_missing : Class → ℕ → ℕ
class_missing Class.Idle m = 0
class_missing Class.Counted m = m
class_missing Class.Read m = m
class_missing Class.Repeat m = 0
class_missing (Class.Refused n) m = 0

-- The channel is that of a frame that is Counted, Read or a repeat, the lane that of one that is Read.
unfoldable pub class_channel : Class → ℕ → Option ℕ
class_channel Class.Idle c = None
class_channel Class.Counted c = Some c
class_channel Class.Read c = Some c
class_channel Class.Repeat c = Some c
class_channel (Class.Refused n) c = None

unfoldable pub class_lane : Class → ℕ → Option ℕ
class_lane Class.Idle l = None
class_lane Class.Counted l = None
class_lane Class.Read l = Some l
class_lane Class.Repeat l = None
class_lane (Class.Refused n) l = None

pub record LookGives (r : Reader) (f : List ℕ) (o : Looked) : Type 0 where
  -- "The first that applies is given, and none otherwise."
  pub refusal : class_refusal o.class ≡ given (look_refusals r f)
  -- "A frame that passes the checks is one of three", or a repeat.
  pub class : given (look_refusals r f) ≡ 0 → o.class ≡ class_in r f
  pub missing : o.missing ≡ class_missing o.class (missing_in r f)
  pub channel : o.channel ≡ class_channel o.class (channel_in r.setting f)
  pub lane : o.lane ≡ class_lane o.class (lane_in r.setting f)
