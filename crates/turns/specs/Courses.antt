-- Frame by frame: what goes from one to the next.
use Rattle.std.specs.Prelude.{ℕ, ◌+◌, min, ◌≡◌, Bool, cond, not, ◌&&◌, Option, Some, None, List, take, replicate, Result, Ok, Err}
use Rattle.rules.specs.Tests.{◌=?◌, number_of}
use Rattle.rules.specs.declared.Refusal.{Refusal}
use Rattle.rules.specs.declared.Sender.{Sender}
use Rattle.rules.specs.declared.Writer.{Writer}
use Rattle.rules.specs.Settings.{number}
use Rattle.rules.specs.Calls.{write}
use Rattle.streams.specs.declared.Fault.{Fault}
use Rattle.streams.specs.declared.Fault.TheVariants as faults
use Rattle.streams.specs.Streams.{sound, past}
use Rattle.turns.specs.declared.Course.{Course}

abbrev pub ended : Course → Option Fault → Course
ended c f = record { state = c.state; frames = c.frames; octets = c.octets; fault = f }

unfoldable pub one_more : ℕ → ℕ
one_more n = min (n + 1) 18446744073709551615

-- Whether standard output took a frame.
abbrev pub sent_fault : Bool → Option Fault
sent_fault sent = cond sent None (Some faults.NotSent)

abbrev pub Sent : Option Fault → Type 0
Sent f = f ≡ sent_fault (sound f)

-- The frame area before a frame is written.
unfoldable pub area_before : List ℕ
area_before = replicate 4096 0

-- "The call writes the lane's next frame into the first F octets": these octets are that frame.
abbrev pub FrameOf : Writer → ℕ → List ℕ → List ℕ → List ℕ → List ℕ → Type 0
FrameOf w l batch insert ocf frame = frame ≡ take w.setting.length (write w l batch insert ocf area_before).area

-- The course after a write with this outcome, of a frame that standard output took or not.
unfoldable pub course_of : Course → Result Unit Refusal → Writer → Bool → Course
course_of c (Ok x) w sent = record { state = w; frames = one_more c.frames; octets = c.octets; fault = sent_fault sent }
course_of c (Err e) w sent = record { state = w; frames = c.frames; octets = c.octets; fault = Some (faults.Refused (number_of e)) }

unfoldable pub sent_on : Course → Sender → Bool → Course
sent_on c x sent = course_of c x.outcome x.state sent

-- The next frame of a batch: the course is as the rules' write leaves it, up to whether the frame was taken.
abbrev pub SentNext : Course → ℕ → List ℕ → List ℕ → List ℕ → Course → Type 0
SentNext c l batch insert ocf c' = c' ≡ sent_on c (write c.state l batch insert ocf area_before).sender (sound c'.fault)

-- "Every argument and every file is looked through, file after file, before the first frame is written."
unfoldable pub CourseOn : Bool → Course → ℕ → List ℕ → List ℕ → List ℕ → Course → Type 0
CourseOn writing c l batch insert ocf c' = cond writing (SentNext c l batch insert ocf c') (c' ≡ c)

-- "To work a batch off is to lend the same batch until that return": until the lane's number is 0 again, or something went wrong.
unfoldable pub goes_on : Course → ℕ → Bool
goes_on c l = sound c.fault && not (number c.state l =? 0)

unfoldable pub counted : Course → ℕ → Course
counted c n = record { state = c.state; frames = c.frames; octets = past c.octets n; fault = c.fault }
