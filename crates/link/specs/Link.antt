-- Two ends and the link between them: calls of the writer, copies of frames and other octets that arrive, and the reads at the other end.
use Rattle.std.specs.Prelude.{ℕ, zero, suc, ◌+◌, ◌*◌, Bool, false, cond, ◌||◌, List, [], ◌∷◌, ◌++◌, map, get_or, take, drop}
use Rattle.rules.specs.declared.Setting.{Setting}
use Rattle.rules.specs.declared.Reader.{Reader}
use Rattle.rules.specs.declared.Writer.{Writer}
use Rattle.rules.specs.Tests.{◌=?◌}
use Rattle.rules.specs.Octets.{num}
use Rattle.rules.specs.Settings.{lane, channel_of, number, zone}
use Rattle.rules.specs.Frames.{count_in}
use Rattle.rules.specs.Writing.{units_of}
use Rattle.rules.specs.Calls.{Sent, write, Got, read}
use Rattle.rules.specs.Areas.{record_size}

-- ---- the writer's end

-- A call of the writer.
pub record Call : Type 0 where
  pub lane : ℕ
  pub batch : List ℕ
  pub insert : List ℕ
  pub ocf : List ℕ
  pub area : List ℕ

unfoldable pub called : Writer → Call → Sent
called w x = write w x.lane x.batch x.insert x.ocf x.area

-- A frame of a run: its lane, its channel's place in the list, its count, the units of its batch, the octets of the batch that are its own (the one
-- with which it starts, and the one behind its last), its octets, and whether it is kept.
pub record Frame : Type 0 where
  pub lane : ℕ
  pub channel : ℕ
  pub count : ℕ
  pub units : List (List ℕ)
  pub start : ℕ
  pub stop : ℕ
  pub octets : List ℕ
  pub kept : Bool

-- The place of lane l's channel in the list: two lanes share "channel and service" where it is the same.
abbrev pub place_of : Setting → ℕ → ℕ
place_of s l = (lane s l).channel

-- "The frames of a batch are its octets cut every Z": where lane l's next frame starts.
abbrev pub start_of : Setting → Writer → ℕ → ℕ
start_of s w l = number w l * zone s (channel_of s l)

-- The frame that a call writes, of a writer of setting s: the first F octets of the area that it was lent.
unfoldable pub frame_by : Setting → Writer → Call → Bool → Frame
frame_by s w x kept =
    record {
      lane = x.lane;
      channel = place_of s x.lane;
      count = count_in (channel_of s x.lane) (take s.length (called w x).area);
      units = units_of (lane s x.lane).kind x.batch;
      start = start_of s w x.lane;
      stop = start_of s w x.lane + zone s (channel_of s x.lane);
      octets = take s.length (called w x).area;
      kept = kept;
    }

-- ---- the link

-- The unit area and the record area that a read is lent.
pub record Lent : Type 0 where
  pub units : List ℕ
  pub records : List ℕ

-- What happens, in its order: a call writes a frame, which is from then on the one that is sent on its channel; a copy arrives of the frame that is
-- sent on the channel at place c; other octets arrive. The read of what arrives is lent areas. So a frame is "sent several times running": between two
-- copies of it there is no other frame of its channel and service, and there may be frames of others. Of a copy that does not arrive nothing is said.
pub data Event (C : Type 0) : Type 0 where
  Writes : C → Event C
  Copy : ℕ → Lent → Event C
  Stray : List ℕ → Lent → Event C

-- "A frame is gone when no copy is kept": whether one of the frame that is now sent on channel c arrives, before the next frame of that channel. The
-- channel of each call is given.
unfoldable pub arrives : {C : Type 0} → (C → ℕ) → ℕ → List (Event C) → Bool
arrives place c [] = false
arrives place c (Writes x ∷ es) = cond (place x =? c) false (arrives place c es)
arrives place c (Copy d lent ∷ es) = d =? c || arrives place c es
arrives place c (Stray f lent ∷ es) = arrives place c es

-- The channel of a call.
abbrev pub place_in : Setting → Call → ℕ
place_in s x = place_of s x.lane

-- What happens, with frames in the places of their calls: each is kept, or gone. Each call is "handed the state that the last one left".
unfoldable pub flown : Setting → Writer → List (Event Call) → List (Event Frame)
flown s w [] = []
flown s w (Writes x ∷ es) = Writes (frame_by s w x (arrives (place_in s) (place_in s x) es)) ∷ flown s (called w x).sender.state es
flown s w (Copy c lent ∷ es) = Copy c lent ∷ flown s w es
flown s w (Stray f lent ∷ es) = Stray f lent ∷ flown s w es

-- The frames, in sending order.
unfoldable pub sent : List (Event Frame) → List Frame
sent [] = []
sent (Writes f ∷ es) = f ∷ sent es
sent (Copy c lent ∷ es) = sent es
sent (Stray f lent ∷ es) = sent es

-- ---- the reader's end

-- An octet string that arrives, and what its read is lent.
pub record Arrival : Type 0 where
  pub octets : List ℕ
  pub lent : Lent

-- What is sent on each channel: a frame, or none as yet.
abbrev pub Air : Type 0
Air = ℕ → List (List ℕ)

abbrev pub silence : Air
silence c = []

unfoldable pub sending : Frame → Air → Air
sending f air c = cond (f.channel =? c) (f.octets ∷ []) (air c)

-- A copy of what is sent.
abbrev pub copied : List (List ℕ) → Lent → List Arrival
copied [] lent = []
copied (f ∷ fs) lent = record { octets = f; lent = lent } ∷ []

unfoldable pub arrivals : Air → List (Event Frame) → List Arrival
arrivals air [] = []
arrivals air (Writes f ∷ es) = arrivals (sending f air) es
arrivals air (Copy c lent ∷ es) = copied (air c) lent ++ arrivals air es
arrivals air (Stray f lent ∷ es) = record { octets = f; lent = lent } ∷ arrivals air es

-- The reads of what arrives: each is handed "the state and held octets that the last one left", and lent unit and record areas with
-- anything in them.
unfoldable pub reads : Reader → List ℕ → List Arrival → List Got
reads r h [] = []
reads r h (a ∷ more) =
    let o : Got = read r a.octets h a.lent.units a.lent.records in
    o ∷ reads o.taken.state o.held_area more

-- ---- "What the reads hand out, taken from the unit area by the records"

-- A unit as it is handed out: its octets, and what its record says of frames: the count of the one where it ends, and its span.
pub record Filed : Type 0 where
  pub octets : List ℕ
  pub count : ℕ
  pub span : ℕ

abbrev pub octets_in : List Filed → List (List ℕ)
octets_in us = map (λ (u : Filed). u.octets) us

-- The unit whose record these octets begin with: "start 4, length 4" from octet 4 on, then "the count in 8 octets, then 4 octets: the unit's frame
-- span".
unfoldable pub unit_by : List ℕ → List ℕ → Filed
unit_by records units =
    record {
      octets = take (num (take 4 (drop 8 records))) (drop (num (take 4 (drop 4 records))) units);
      count = num (take 8 (drop 12 records));
      span = num (take 4 (drop 20 records));
    }

-- Of the first n records, of 24 octets each, the units of those whose first octet names lane l.
unfoldable pub units_by : ℕ → ℕ → List ℕ → List ℕ → List Filed
units_by l zero records units = []
units_by l (suc n) records units =
    cond (get_or records 0 0 =? l) (unit_by records units ∷ []) [] ++ units_by l n (drop record_size records) units

-- What a read hands out on lane l.
unfoldable pub handed : ℕ → Got → List Filed
handed l o = units_by l o.taken.answer.units o.record_area o.unit_area

unfoldable pub handed_out : ℕ → List Got → List Filed
handed_out l [] = []
handed_out l (o ∷ os) = handed l o ++ handed_out l os
