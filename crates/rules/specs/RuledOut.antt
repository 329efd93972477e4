-- "Ruled out by name": the wrong readers and writers that document 01 lists, each as a function of everything that a call is handed. That
-- the promises do not allow them is shown in the proofs of the same name.
use Rattle.std.specs.Prelude.{ℕ, zero, suc, Bool, cond, not, List, Result, Err}
use Rattle.rules.specs.declared.Reader.{Reader}
use Rattle.rules.specs.declared.Writer.{Writer}
use Rattle.rules.specs.declared.Refusal.{Refusal}
use Rattle.rules.specs.declared.Class.{Class}
use Rattle.rules.specs.declared.Answer.{Answer}
use Rattle.rules.specs.declared.Looked.{Looked}
use Rattle.rules.specs.Tests.{every}
use Rattle.rules.specs.Settings.{expect}
use Rattle.rules.specs.Calls.{Sent, Got, bare, read, nowhere, look}
use Rattle.rules.specs.Promises.{WriteGives, ReadGives, LookGives}

-- ---- readers and writers, and what it is that the promise allows one

-- Something that a read is asked for: of the state, the frame and the three areas.
abbrev pub OfRead : Type 0 → Type 0
OfRead A = Reader → List ℕ → List ℕ → List ℕ → List ℕ → A

-- Of the state, the lane, batch, insert octets, OCF octets and the frame area.
abbrev pub OfWrite : Type 0 → Type 0
OfWrite A = Writer → ℕ → List ℕ → List ℕ → List ℕ → List ℕ → A

-- Of the state and the frame.
abbrev pub OfLook : Type 0 → Type 0
OfLook A = Reader → List ℕ → A

-- On all inputs, what comes back is what the promise says.
abbrev pub ReaderAllowed : OfRead Got → Type 0
ReaderAllowed p =
    (r : Reader) (f h u c : List ℕ)
    → ReadGives r f h u c (p r f h u c).taken (p r f h u c).held_area (p r f h u c).unit_area (p r f h u c).record_area

abbrev pub WriterAllowed : OfWrite Sent → Type 0
WriterAllowed p =
    (w : Writer) (l : ℕ) (batch insert ocf area : List ℕ)
    → WriteGives w l batch insert ocf area (p w l batch insert ocf area).sender (p w l batch insert ocf area).area

abbrev pub LookerAllowed : OfLook Looked → Type 0
LookerAllowed p = (r : Reader) (f : List ℕ) → LookGives r f (p r f)

-- ---- "One that leaves areas and state as found", whatever it answers

unfoldable pub reader_as_found : OfRead Answer → OfRead Got
reader_as_found says r f h u c =
    record { taken = record { answer = says r f h u c; state = r }; held_area = h; unit_area = u; record_area = c }

unfoldable pub writer_as_found : OfWrite (Result Unit Refusal) → OfWrite Sent
writer_as_found says w l batch insert ocf area =
    record { sender = record { outcome = says w l batch insert ocf area; state = w }; area = area }

-- ---- "A reader or writer that refuses everything", by whatever numbers

unfoldable pub reader_refusing : OfRead ℕ → OfRead Got
reader_refusing n r f h u c = reader_as_found (λ r f h u c. bare (Class.Refused (n r f h u c))) r f h u c

unfoldable pub writer_refusing : OfWrite Refusal → OfWrite Sent
writer_refusing e w l batch insert ocf area = writer_as_found (λ w l batch insert ocf area. Err (e w l batch insert ocf area)) w l batch insert ocf area

unfoldable pub looker_refusing : OfLook ℕ → OfLook Looked
looker_refusing n r f = nowhere (Class.Refused (n r f))

-- ---- "One with a fixed answer", whatever it does besides

unfoldable pub reader_fixed : Answer → OfRead Got → OfRead Got
reader_fixed a p r f h u c =
    record {
      taken = record { answer = a; state = (p r f h u c).taken.state };
      held_area = (p r f h u c).held_area;
      unit_area = (p r f h u c).unit_area;
      record_area = (p r f h u c).record_area;
    }

unfoldable pub writer_fixed : Result Unit Refusal → OfWrite Sent → OfWrite Sent
writer_fixed o p w l batch insert ocf area =
    record {
      sender = record { outcome = o; state = (p w l batch insert ocf area).sender.state };
      area = (p w l batch insert ocf area).area;
    }

unfoldable pub looker_fixed : Looked → OfLook Looked
looker_fixed o r f = o

-- ---- "One that reads its first frame and then only says so"

-- No channel expects a count: no frame was read yet.
unfoldable pub untried : Reader → Bool
untried r = every 8 (λ (c : ℕ). not (expect r c).known)

unfoldable pub reader_once : OfRead Answer → OfRead Got
reader_once says r f h u c = cond (untried r) (read r f h u c) (reader_as_found says r f h u c)

-- ---- "One that invents missing, idle, fill or dropped"

-- A number, n and one more, in the place of none.
unfoldable pub invented : ℕ → ℕ → ℕ
invented n zero = suc n
invented n (suc m) = suc m

-- A reader that does as the rules say, with another answer.
unfoldable pub reader_answering : (Answer → Answer) → OfRead Got
reader_answering other r f h u c = reader_fixed (other (read r f h u c).taken.answer) read r f h u c

unfoldable pub invents_missing : ℕ → OfRead Got
invents_missing n =
    reader_answering
    (λ (a : Answer).
    record { class = a.class; units = a.units; octets = a.octets; missing = invented n a.missing; idle = a.idle; fill = a.fill; dropped = a.dropped })

unfoldable pub invents_idle : ℕ → OfRead Got
invents_idle n =
    reader_answering
    (λ (a : Answer).
    record { class = a.class; units = a.units; octets = a.octets; missing = a.missing; idle = invented n a.idle; fill = a.fill; dropped = a.dropped })

unfoldable pub invents_fill : ℕ → OfRead Got
invents_fill n =
    reader_answering
    (λ (a : Answer).
    record { class = a.class; units = a.units; octets = a.octets; missing = a.missing; idle = a.idle; fill = invented n a.fill; dropped = a.dropped })

unfoldable pub invents_dropped : ℕ → OfRead Got
invents_dropped n =
    reader_answering
    (λ (a : Answer).
    record { class = a.class; units = a.units; octets = a.octets; missing = a.missing; idle = a.idle; fill = a.fill; dropped = invented n a.dropped })

-- A look that does as the rules say, with another number of missing frames: one that invents them, and one that leaves them out.
unfoldable pub looker_missing : (ℕ → ℕ) → OfLook Looked
looker_missing other r f =
    record { class = (look r f).class; missing = other (look r f).missing; channel = (look r f).channel; lane = (look r f).lane }

unfoldable pub look_invents : ℕ → OfLook Looked
look_invents n = looker_missing (invented n)

unfoldable pub look_leaves_out : OfLook Looked
look_leaves_out = looker_missing (λ (m : ℕ). 0)
