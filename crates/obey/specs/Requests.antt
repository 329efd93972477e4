-- A request is a row of eight numbers with octets behind it. What each asks for, and what it leaves in the areas.
use Rattle.std.specs.Prelude.{ℕ, ◌+◌, ◌<◌, min, ◌≡◌, cond, List, [], ◌∷◌, ◌++◌, length, take, drop, replicate}
use Rattle.rules.specs.declared.Reader.{Reader}
use Rattle.rules.specs.declared.Writer.{Writer}
use Rattle.rules.specs.declared.Class.{Class}
use Rattle.rules.specs.declared.Answer.{Answer}
use Rattle.rules.specs.declared.Taken.{Taken}
use Rattle.rules.specs.declared.Sender.{Sender}
use Rattle.rules.specs.declared.Listener.{Listener}
use Rattle.rules.specs.declared.Looked.{Looked}
use Rattle.std.specs.Prelude.{Option}
use Rattle.std.specs.Prelude.{Some, None}
use Rattle.rules.specs.Tests.{◌=?◌, ◌<?◌, ◌≤?◌}
use Rattle.rules.specs.Octets.{check_of}
use Rattle.rules.specs.Areas.{laid}
use Rattle.rules.specs.Calls.{refusal_of, class_refusal, set_up_writer, set_up_reader, Sent, write, Got, read, look}
use Rattle.obey.specs.declared.requests.Sizes.{Sizes}
use Rattle.obey.specs.declared.requests.Asks.{Asks}
use Rattle.obey.specs.declared.requests.Asks.TheVariants.{Read, LayHeld, Blank, LayDesk, SetWriter, SetReader, Write, Check, Look, Nothing}
use Rattle.obey.specs.declared.requests.Frame.TheVariants.{Kept, Behind}
use Rattle.rows.specs.Rows.{word, spelled}
use Rattle.rows.specs.States.{setting_in, reader_in, writer_in, reader_octets, writer_octets}

-- ---- octets of a request

-- n octets from octet `from` on, as far as there are any.
unfoldable pub cut : List ℕ → ℕ → ℕ → List ℕ
cut xs from n = take n (drop from xs)

-- The octets behind the row, as many as its number 1 says.
unfoldable pub behind : List ℕ → List ℕ
behind q = cut q 64 (word q 1)

-- An area with these octets from octet `from` on; as it was, where they have no room.
unfoldable pub laid_in : List ℕ → ℕ → List ℕ → List ℕ
laid_in area from xs = cond ((from + length xs) ≤? length area) (laid area from xs) area

-- ---- the desk: row 0 is the answer, from row 1 on stands the writer's state, from row 18 on the reader's, from octet 2,240 on the frame area

-- A row of one number.
abbrev pub one : ℕ → List ℕ
one n = n ∷ 0 ∷ 0 ∷ 0 ∷ 0 ∷ 0 ∷ 0 ∷ 0 ∷ []

unfoldable pub answered : List ℕ → List ℕ → List ℕ
answered desk row = laid desk 0 (spelled row)

-- What a set-up of the writer, or a write, answers: the refusal's number, and the state.
unfoldable pub sent_on : List ℕ → Sender → List ℕ
sent_on desk t = laid (answered desk (one (refusal_of t.outcome))) 64 (writer_octets t.state)

-- What a set-up of the reader answers.
unfoldable pub heard_on : List ℕ → Listener → List ℕ
heard_on desk t = laid (answered desk (one (refusal_of t.outcome))) 1152 (reader_octets t.state)

abbrev pub class_number : Class → ℕ
class_number Class.Idle = 0
class_number Class.Counted = 1
class_number Class.Read = 2
class_number (Class.Refused n) = 3
class_number Class.Repeat = 4

unfoldable pub answer_row : Answer → List ℕ
answer_row a =
    class_number a.class ∷ class_refusal a.class ∷ a.units ∷ a.octets ∷ a.missing ∷ a.idle ∷ a.fill ∷ a.dropped ∷ []

-- What a read answers: class, counts and state.
unfoldable pub taken_on : List ℕ → Taken → List ℕ
taken_on desk t = laid (answered desk (answer_row t.answer)) 1152 (reader_octets t.state)

-- ---- a write

-- With the lane, insert octets, OCF octets and batch that the request says.
unfoldable pub asked : List ℕ → Writer → List ℕ → Sent
asked q w area = write w (word q 2) (cut q 336 (word q 1)) (cut q 64 (word q 3)) (cut q 320 (word q 4)) area

-- By the writer on the desk, lent the first octets of the frame area, as many as the request says.
unfoldable pub sent : List ℕ → List ℕ → Sent
sent q desk = asked q (writer_in desk 1) (cut desk 2240 (word q 5))

unfoldable pub written : Sent → List ℕ → List ℕ
written s desk = sent_on (laid desk 2240 s.area) s.sender

-- ---- a read

-- As much of areas that are so long is lent as the request says.
unfoldable pub sizes_in : List ℕ → ℕ → ℕ → ℕ → Sizes
sizes_in q held units records = record { held = min (word q 4) held; units = min (word q 2) units; records = min (word q 3) records }

unfoldable pub read_in : Sizes → Reader → List ℕ → List ℕ → List ℕ → List ℕ → Got
read_in z r f held units records = read r f (take z.held held) (take z.units units) (take z.records records)

-- What a read leaves, with the octets that were not lent.
unfoldable pub whole : Sizes → Got → List ℕ → List ℕ → List ℕ → Got
whole z g held units records =
    record {
      taken = g.taken;
      held_area = g.held_area ++ drop z.held held;
      unit_area = g.unit_area ++ drop z.units units;
      record_area = g.record_area ++ drop z.records records;
    }

-- The frame is the octets behind request 1, and the first octets of the frame area otherwise.
unfoldable pub frame_in : List ℕ → List ℕ → List ℕ
frame_in q desk = cond (word q 0 =? 1) (behind q) (cut desk 2240 (word q 5))

-- By the reader on the desk.
unfoldable pub read_on : List ℕ → List ℕ → List ℕ → List ℕ → List ℕ → Got
read_on q desk held units records =
    let z = sizes_in q (length held) (length units) (length records) in
    whole z (read_in z (reader_in desk 18) (frame_in q desk) held units records) held units records

-- What a read leaves on the desk and in its areas.
pub record Left (g : Got) (before after held_area unit_area record_area : List ℕ) : Type 0 where
  pub desk : after ≡ taken_on before g.taken
  pub held : held_area ≡ g.held_area
  pub units : unit_area ≡ g.unit_area
  pub records : record_area ≡ g.record_area

-- ---- a look

-- The place of a channel or a lane and one; 0 for none. There are eight of each at most, so no look names a place past 7 (proofs/Places): the
-- number of such a one is 0 here.
unfoldable pub place_number : Option ℕ → ℕ
place_number (Some i) = cond (i <? 8) (i + 1) 0
place_number None = 0

unfoldable pub look_row : Looked → List ℕ
look_row o =
    class_number o.class ∷ class_refusal o.class ∷ place_number o.channel ∷ place_number o.lane ∷ o.missing ∷ 0 ∷ 0 ∷ 0 ∷ []

-- At the octets behind the row, by the reader on the desk: the answer is laid, and all else stays as it is.
unfoldable pub look_on : List ℕ → List ℕ → List ℕ
look_on q desk = answered desk (look_row (look (reader_in desk 18) (behind q)))

-- ---- requests

-- What a request asks for, by number 0 of its row.
abbrev pub Means : ℕ → Asks → Type 0
Means n (Read Kept) = n ≡ 0
Means n (Read Behind) = n ≡ 1
Means n LayHeld = n ≡ 2
Means n Blank = n ≡ 3
Means n LayDesk = n ≡ 4
Means n SetWriter = n ≡ 5
Means n SetReader = n ≡ 6
Means n Write = n ≡ 7
Means n Check = n ≡ 8
Means n Look = n ≡ 9
Means n Nothing = 9 < n

-- The areas on which requests work.
pub record Areas : Type 0 where
  pub desk : List ℕ
  pub held : List ℕ
  pub units : List ℕ
  pub records : List ℕ

unfoldable pub after_read : Got → List ℕ → Areas
after_read g desk = record { desk = taken_on desk g.taken; held = g.held_area; units = g.unit_area; records = g.record_area }

-- Octets 55 in the reader's areas.
unfoldable pub blank : Areas → Areas
blank m =
    record {
      desk = m.desk;
      held = replicate (length m.held) 0x55;
      units = replicate (length m.units) 0x55;
      records = replicate (length m.records) 0x55;
    }

-- 4 lays octets on the desk, 5 and 6 are the set-ups with the setting of the state that they replace, 7 is a write, 8 a frame check,
-- 9 a look.
unfoldable pub desk_after : List ℕ → List ℕ → List ℕ
desk_after q desk =
    cond (word q 0 =? 4) (laid_in desk (word q 2) (behind q))
    (cond (word q 0 =? 5) (sent_on desk (set_up_writer (setting_in desk 1)))
    (cond (word q 0 =? 6) (heard_on desk (set_up_reader (setting_in desk 18)))
    (cond (word q 0 =? 7) (written (sent q desk) desk)
    (cond (word q 0 =? 8) (answered desk (one (check_of (behind q)))) (cond (word q 0 =? 9) (look_on q desk) desk)))))

-- 0 and 1 are reads, 2 lays octets into the held area, 3 makes the reader's areas blank; the others leave these as they are.
unfoldable pub obeyed : List ℕ → Areas → Areas
obeyed q m =
    cond (word q 0 <? 2) (after_read (read_on q m.desk m.held m.units m.records) m.desk)
    (cond (word q 0 =? 2) (record { desk = m.desk; held = laid_in m.held (word q 2) (behind q); units = m.units; records = m.records })
    (cond (word q 0 =? 3) (blank m) (record { desk = desk_after q m.desk; held = m.held; units = m.units; records = m.records })))
