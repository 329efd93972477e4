-- The calls as wholes: set-up, write and read, which is the call take, and look. Each is one equation between everything handed in and everything
-- handed back or left in an area that was lent.
use Rattle.std.specs.Prelude.{ℕ, ◌+◌, ◌*◌, Bool, cond, not, ◌||◌, List, [], ◌∷◌, length, Result, Ok, Err, Some, None}
use Rattle.rules.specs.declared.Channel.{Channel}
use Rattle.rules.specs.declared.Setting.{Setting}
use Rattle.rules.specs.declared.Reader.{Reader}
use Rattle.rules.specs.declared.Writer.{Writer}
use Rattle.rules.specs.declared.Refusal.{Refusal}
use Rattle.rules.specs.declared.Class.{Class}
use Rattle.rules.specs.declared.Answer.{Answer}
use Rattle.rules.specs.declared.Taken.{Taken}
use Rattle.rules.specs.declared.Listener.{Listener}
use Rattle.rules.specs.declared.Sender.{Sender}
use Rattle.rules.specs.declared.Looked.{Looked}
use Rattle.rules.specs.declared.Verdict.{Verdict}
use Rattle.rules.specs.declared.Gap.{Gap}
use Rattle.rules.specs.Tests.{◌≤?◌, ◌<?◌, ◌≠?◌, Row, refuse, number_of, given, answered}
use Rattle.rules.specs.Areas.{laid, joined, part, held_size, part_size, records_size, units_size}
use Rattle.rules.specs.Settings.{channel, lane, channel_of, expect, slot, with_slot, count, number, zone, ocf_octets, setting_ok, reader_ok, writer_ok, fresh_reader, fresh_writer, no_reader, no_writer}
use Rattle.rules.specs.Frames.{count_in, rule_in, pointer_in, zone_in, points_to}
use Rattle.rules.specs.Writing.{batch_ok, frames, frame_of, writer_after}
use Rattle.rules.specs.Reading.{missing, repeats, gap, DataUnit, held_in, octets_of, Made, keeps, lane_step, records_from, info_of}
use Rattle.rules.specs.Refusals.{refusals, judged}

-- ---- the paper's number for each case of an answer; 0 where none is refused

unfoldable pub refusal_of : {A : Type 0} → Result A Refusal → ℕ
refusal_of (Ok x) = 0
refusal_of (Err e) = number_of e

-- The same answer, with the number in the refusal's place.
abbrev pub by_number : {A : Type 0} → Result A Refusal → Result A ℕ
by_number (Ok x) = Ok x
by_number (Err e) = Err (number_of e)

unfoldable pub class_refusal : Class → ℕ
class_refusal Class.Idle = 0
class_refusal Class.Counted = 0
class_refusal Class.Read = 0
class_refusal Class.Repeat = 0
class_refusal (Class.Refused n) = n

-- ---- set-up: "A refused set-up returns a state of zeros."

unfoldable pub set_up_reader : Setting → Listener
set_up_reader s = cond (setting_ok s) (record { outcome = Ok tt; state = fresh_reader s }) (record { outcome = Err Refusal.Invalid; state = no_reader })

unfoldable pub set_up_writer : Setting → Sender
set_up_writer s = cond (setting_ok s) (record { outcome = Ok tt; state = fresh_writer s }) (record { outcome = Err Refusal.Invalid; state = no_writer })

-- ---- write: "A call names a lane and lends its batch, insert octets, OCF octets and a frame area."

-- What a write hands back, and the frame area after it.
pub record Sent : Type 0 where
  pub sender : Sender
  pub area : List ℕ

-- "Writer 1, 2, 13 to 16."
unfoldable pub write_refusals : Writer → ℕ → List ℕ → List ℕ → List ℕ → List ℕ → List Row
write_refusals w l batch insert ocf area =
    -- "setting or state not valid"
    refuse Refusal.Invalid (not (writer_ok w))
    -- "an area is too short (...; frame area: below F)"
    ∷ refuse Refusal.AreaShort (length area <? w.setting.length)
    -- "no such lane"
    ∷ refuse Refusal.NoLane (w.setting.numbered ≤? l)
    -- "batch breaks its rule"
    ∷ refuse Refusal.Batch (not (batch_ok (lane w.setting l).kind (lane w.setting l).longest batch))
    -- "insert octets not I, or OCF octets not 4 (0 without OCF)"
    ∷ refuse Refusal.Parts (length insert ≠? w.setting.insert || length ocf ≠? ocf_octets (channel_of w.setting l))
    -- "lane's next frame number is not below the batch's frame count"
    ∷ refuse Refusal.FrameNumber (frames (zone w.setting (channel_of w.setting l)) batch ≤? number w l)
    ∷ []

-- "The call writes the lane's next frame into the first F octets and leaves later ones untouched."
unfoldable pub written : Writer → ℕ → List ℕ → List ℕ → List ℕ → List ℕ → Result Unit Refusal → Sent
written w l batch insert ocf area (Ok x) =
    record {
      sender = record { outcome = Ok tt; state = writer_after w l batch };
      area = laid area 0 (frame_of w.setting l (count w (lane w.setting l).channel) batch insert ocf (number w l));
    }
written w l batch insert ocf area (Err e) = record { sender = record { outcome = Err e; state = w }; area = area }

unfoldable pub write : Writer → ℕ → List ℕ → List ℕ → List ℕ → List ℕ → Sent
write w l batch insert ocf area = written w l batch insert ocf area (answered (write_refusals w l batch insert ocf area))

-- ---- read: "Areas lent: held octets, 65,536, ...; units, at least 12,288; records, at least 9,600", and 49,152 with A5 of document 02.

-- What a read hands back, and the three areas after it.
pub record Got : Type 0 where
  pub taken : Taken
  pub held_area : List ℕ
  pub unit_area : List ℕ
  pub record_area : List ℕ

-- "An area is too short (held area: not 65,536; ...)."
unfoldable pub areas_short : List ℕ → List ℕ → List ℕ → Bool
areas_short h u c = length h ≠? held_size || length u <? units_size || length c <? records_size

-- A class whose counts are all 0.
abbrev pub bare : Class → Answer
bare k = record { class = k; units = 0; octets = 0; missing = 0; idle = 0; fill = 0; dropped = 0 }

-- "Its count is taken and its data field is not read."
abbrev pub counted : Gap → Answer
counted g = record { class = Class.Counted; units = 0; octets = 0; missing = g.missing; idle = 0; fill = 0; dropped = g.dropped }

-- After a gap, what lane l makes, laid into the areas. "In the held area only the octets that the Read lane holds after the call may
-- change." "Dropped octets (all lanes together)."
unfoldable pub laid_out : Gap → ℕ → ℕ → Made → List ℕ → List ℕ → List ℕ → Got
laid_out g l k m h u c =
    record {
      taken =
          record {
            answer =
                record {
                  class = Class.Read;
                  units = length m.units;
                  octets = length (joined (octets_of m.units));
                  missing = g.missing;
                  idle = m.idle;
                  fill = m.fill;
                  dropped = g.dropped + m.dropped;
                };
            state = with_slot g.state l (keeps m);
          };
      held_area = laid h (part_size * l) m.held.octets;
      unit_area = laid u 0 (joined (octets_of m.units));
      record_area = laid c 0 (records_from (info_of g.state.setting l k) 0 m.units);
    }

-- What lane l holds.
abbrev pub holding : Reader → ℕ → List ℕ → DataUnit
holding r l h = held_in (slot r l) (part l h)

-- What lane l makes of a frame of its channel, after a gap.
unfoldable pub made_by : Gap → ℕ → Channel → List ℕ → List ℕ → Made
made_by g l ch f h =
    lane_step (lane g.state.setting l).kind (lane g.state.setting l).longest (rule_in g.state.setting ch f)
    (holding g.state l h)
    (points_to (pointer_in g.state.setting ch f)) (zone_in g.state.setting ch f)

unfoldable pub read_on : Gap → ℕ → Channel → List ℕ → List ℕ → List ℕ → List ℕ → Got
read_on g l ch f h u c = laid_out g l (count_in ch f) (made_by g l ch f h) h u c

-- "A frame whose count equals the last one taken on its channel", at the reader: on channel c, with count k.
unfoldable pub repeats_at : Reader → ℕ → ℕ → Bool
repeats_at r c k = repeats (channel r.setting c).octets (expect r c) k

-- "... gets the class repeat, after the checks." What the checks say of a frame, and then whether it is one: refused and idle frames are none.
unfoldable pub again : Reader → List ℕ → Verdict → Verdict
again r f (Verdict.Refused n) = Verdict.Refused n
again r f Verdict.Idle = Verdict.Idle
again r f (Verdict.Counted ch) = cond (repeats_at r ch (count_in (channel r.setting ch) f)) (Verdict.Repeat ch) (Verdict.Counted ch)
again r f (Verdict.Read l) =
    cond (repeats_at r (lane r.setting l).channel (count_in (channel_of r.setting l) f)) (Verdict.Repeat (lane r.setting l).channel)
    (Verdict.Read l)
again r f (Verdict.Repeat ch) = Verdict.Repeat ch

-- "Each returns its number and zero counts; states and areas stay unchanged." "Idle: ...; the state stays and all counts are 0." Repeat: "with all
-- counts 0 and the state unchanged."
unfoldable pub on_verdict : Verdict → Reader → List ℕ → List ℕ → List ℕ → List ℕ → Got
on_verdict (Verdict.Refused n) r f h u c =
    record { taken = record { answer = bare (Class.Refused n); state = r }; held_area = h; unit_area = u; record_area = c }
on_verdict Verdict.Idle r f h u c =
    record { taken = record { answer = bare Class.Idle; state = r }; held_area = h; unit_area = u; record_area = c }
on_verdict (Verdict.Counted ch) r f h u c =
    record {
      taken =
          record { answer = counted (gap r ch (count_in (channel r.setting ch) f)); state = (gap r ch (count_in (channel r.setting ch) f)).state };
      held_area = h;
      unit_area = u;
      record_area = c;
    }
on_verdict (Verdict.Read l) r f h u c =
    read_on (gap r (lane r.setting l).channel (count_in (channel_of r.setting l) f)) l (channel_of r.setting l) f h u c
on_verdict (Verdict.Repeat ch) r f h u c =
    record { taken = record { answer = bare Class.Repeat; state = r }; held_area = h; unit_area = u; record_area = c }

-- "Reader 1 to 12."
unfoldable pub read_refusals : Reader → List ℕ → List ℕ → List ℕ → List ℕ → List Row
read_refusals r f h u c =
    -- "setting or state not valid"
    refuse Refusal.Invalid (not (reader_ok r))
    -- "an area is too short (held area: not 65,536; ...)"
    ∷ refuse Refusal.AreaShort (areas_short h u c)
    -- the frame's own, 3 to 12
    ∷ refusals r.setting f

-- What a read's frame is.
unfoldable pub verdict : Reader → List ℕ → List ℕ → List ℕ → List ℕ → Verdict
verdict r f h u c = again r f (judged r.setting f (given (read_refusals r f h u c)))

unfoldable pub read : Reader → List ℕ → List ℕ → List ℕ → List ℕ → Got
read r f h u c = on_verdict (verdict r f h u c) r f h u c

-- ---- look: "One call shall check and answer class and missing without changing anything, another takes a frame" (document 02, A7). It is
-- handed a state and a frame, and hands back no state.

-- "Refusals: unchanged; looking is lent no areas and never gives 2."
unfoldable pub look_refusals : Reader → List ℕ → List Row
look_refusals r f =
    -- "setting or state not valid"
    refuse Refusal.Invalid (not (reader_ok r))
    -- the frame's own, 3 to 12
    ∷ refusals r.setting f

-- What a look's frame is.
unfoldable pub looked : Reader → List ℕ → Verdict
looked r f = again r f (judged r.setting f (given (look_refusals r f)))

-- How many frames of channel c are missing before one with count k.
unfoldable pub missing_at : Reader → ℕ → ℕ → ℕ
missing_at r c k = missing (channel r.setting c).octets (expect r c) k

-- A class of no channel and no lane.
abbrev pub nowhere : Class → Looked
nowhere k = record { class = k; missing = 0; channel = None; lane = None }

-- "Class and missing", and whose the frame is.
unfoldable pub on_look : Verdict → Reader → List ℕ → Looked
on_look (Verdict.Refused n) r f = nowhere (Class.Refused n)
on_look Verdict.Idle r f = nowhere Class.Idle
on_look (Verdict.Counted c) r f =
    record { class = Class.Counted; missing = missing_at r c (count_in (channel r.setting c) f); channel = Some c; lane = None }
on_look (Verdict.Read l) r f =
    record {
      class = Class.Read;
      missing = missing_at r (lane r.setting l).channel (count_in (channel_of r.setting l) f);
      channel = Some (lane r.setting l).channel;
      lane = Some l;
    }
on_look (Verdict.Repeat c) r f = record { class = Class.Repeat; missing = 0; channel = Some c; lane = None }

unfoldable pub look : Reader → List ℕ → Looked
look r f = on_look (looked r f) r f
