-- "Ruled out by name". For each wrong reader and writer one input, or two, at which what it gives is not what the promise allows: what is
-- allowed there is computed from the worked frames.
use mathlib.Core.Path.{◌≡◌, refl, ap, ◌∙◌}
use Prim.Native.Nat.{ℕ, suc}
use native.Mathlib.Omega.{arith}
use mathlib.Core.Bool.{false}
use mathlib.Core.List.{List, [], ◌++◌}
use lib.ListN.{get_or, replicate}
use Rattle.rules.specs.declared.Reader.{Reader}
use Rattle.rules.specs.declared.Writer.{Writer}
use Rattle.std.specs.Prelude.{Result}
use Rattle.rules.specs.declared.Refusal.{Refusal}
use Rattle.rules.specs.declared.Class.{Class}
use Rattle.rules.specs.declared.Answer.{Answer}
use Rattle.rules.specs.declared.Looked.{Looked}
use Rattle.rules.specs.Tests.{given}
use Rattle.rules.specs.Areas.{laid, joined, held_size, records_size, units_size}
use Rattle.rules.specs.Reading.{octets_of}
use Rattle.rules.specs.Settings.{lane, count, number}
use Rattle.rules.specs.Writing.{frame_of}
use Rattle.rules.specs.Calls.{set_up_reader, set_up_writer, Sent, write_refusals, Got, read_refusals, read, look_refusals, look}
use Rattle.rules.specs.Promises.{outcome_leaves, channel_in, lane_in, class_in, count_of, gap_in, made_in, Values, values_in, class_values, class_area, missing_in, class_missing}
use Rattle.rules.specs.Worked.{worked, packet_lane, packet₀, packet₁, frame₀, frame₁, recounted}
use Rattle.rules.specs.RuledOut.{OfRead, OfWrite, OfLook, ReaderAllowed, WriterAllowed, LookerAllowed, reader_as_found, writer_as_found, reader_refusing, writer_refusing, looker_refusing, reader_fixed, writer_fixed, looker_fixed, untried, reader_once, invented, reader_answering, invents_missing, invents_idle, invents_fill, invents_dropped, looker_missing, look_invents, look_leaves_out}
use Rattle.rules.proofs.Worked.{rules}

-- ---- the inputs: a fresh reader and one that has read frame 0, each lent areas full of 55; a fresh writer and the worked batch

fresh : Reader
fresh = (set_up_reader (worked packet_lane)).state

held₀ : List ℕ
held₀ = replicate held_size 0x55

units₀ : List ℕ
units₀ = replicate units_size 0x55

records₀ : List ℕ
records₀ = replicate records_size 0x55

ready : Writer
ready = (set_up_writer (worked packet_lane)).state

batch₀ : List ℕ
batch₀ = packet₀ ++ packet₁

area₀ : List ℕ
area₀ = replicate 32 0x55

after : Got
after = read fresh frame₀ held₀ units₀ records₀

units_octet : get_or units₀ 0 0 ≡ 0x55
unfolding units₀
units_octet = refl

area_octet : get_or area₀ 0 0 ≡ 0x55
unfolding area₀
area_octet = refl

-- ---- what the promise says there, by computation

accepted : given (read_refusals fresh frame₀ held₀ units₀ records₀) ≡ 0
unfolding rules fresh held₀ units₀ records₀
accepted = refl

class_read : class_in fresh frame₀ ≡ Class.Read
unfolding rules fresh class_in channel_in count_of
class_read = refl

refused_3 : given (read_refusals fresh [] held₀ units₀ records₀) ≡ 3
unfolding rules fresh held₀ units₀ records₀
refused_3 = refl

first_octet : get_or (laid units₀ 0 (joined (octets_of (made_in fresh frame₀ held₀).units))) 0 0 ≡ 0
unfolding rules fresh held₀ units₀ made_in gap_in lane_in channel_in count_of
first_octet = refl

look_accepted : given (look_refusals fresh frame₀) ≡ 0
unfolding rules fresh
look_accepted = refl

look-refused_3 : given (look_refusals fresh []) ≡ 3
unfolding rules fresh
look-refused_3 = refl

-- Frame 1 with count 5 where 1 is expected: four are missing.
gone : List ℕ
gone = recounted 5 frame₁

gone_accepted : given (look_refusals after.taken.state gone) ≡ 0
unfolding rules fresh held₀ units₀ records₀ after gone
gone_accepted = refl

gone_class : class_in after.taken.state gone ≡ Class.Read
unfolding rules fresh held₀ units₀ records₀ after gone class_in channel_in count_of
gone_class = refl

none-gone : missing_in fresh frame₀ ≡ 0
unfolding rules fresh missing_in channel_in count_of
none-gone = refl

gone_four : missing_in after.taken.state gone ≡ 4
unfolding rules fresh held₀ units₀ records₀ after gone missing_in channel_in count_of
gone_four = refl

-- Frame 0 gives one unit; nothing is missing, idle, fill or dropped.
nothing-lost : class_values Class.Read (gap_in fresh frame₀) (made_in fresh frame₀ held₀)
    ≡ record { units = 1; octets = 10; missing = 0; idle = 0; fill = 0; dropped = 0 }
unfolding rules fresh held₀ class_values made_in gap_in lane_in channel_in count_of
nothing-lost = refl

-- Frame 1 after it.
second_accepted : given (read_refusals after.taken.state frame₁ after.held_area units₀ records₀) ≡ 0
unfolding rules fresh held₀ units₀ records₀ after
second_accepted = refl

second-read : class_in after.taken.state frame₁ ≡ Class.Read
unfolding rules fresh held₀ units₀ records₀ after class_in channel_in count_of
second-read = refl

second_octet : get_or (laid units₀ 0 (joined (octets_of (made_in after.taken.state frame₁ after.held_area).units))) 0 0 ≡ 0
unfolding rules fresh held₀ units₀ records₀ after made_in gap_in lane_in channel_in count_of
second_octet = refl

tried : untried after.taken.state ≡ false
unfolding rules fresh held₀ units₀ records₀ after untried
tried = refl

done : given (write_refusals ready 0 batch₀ [] [] area₀) ≡ 0
unfolding rules ready batch₀ area₀
done = refl

refused_13 : given (write_refusals ready 9 batch₀ [] [] area₀) ≡ 13
unfolding rules ready batch₀ area₀
refused_13 = refl

frame_octet : get_or (laid area₀ 0 (frame_of ready.setting 0 (count ready (lane ready.setting 0).channel) batch₀ [] [] (number ready 0))) 0 0 ≡ 0xC0
unfolding rules ready batch₀ area₀
frame_octet = refl

-- ---- "A reader or writer that refuses everything"

pub reader-refusing : (n : OfRead ℕ) → ReaderAllowed (reader_refusing n) → ⊥
unfolding reader_refusing reader_as_found
reader-refusing n ok =
    let e = (ok fresh frame₀ held₀ units₀ records₀).class accepted ∙ class_read in
    let z : ◌≡◌ {A = ℕ} 0 1 = cc in
    omega (arith, z)

pub writer-refusing : (n : OfWrite Refusal) → WriterAllowed (writer_refusing n) → ⊥
unfolding writer_refusing writer_as_found
writer-refusing n ok =
    let e = (ok ready 0 batch₀ [] [] area₀).told.done done in
    let z : ◌≡◌ {A = ℕ} 0 1 = cc in
    omega (arith, z)

-- ---- "One with a fixed answer": a frame is read, and no octets are refused

pub reader-fixed : (a : Answer) (p : OfRead Got) → ReaderAllowed (reader_fixed a p) → ⊥
unfolding reader_fixed
reader-fixed a p ok =
    let e = (ok fresh frame₀ held₀ units₀ records₀).refusal ∙ accepted in
    let q = (ok fresh [] held₀ units₀ records₀).refusal ∙ refused_3 in
    omega (arith, e, q)

pub writer-fixed : (o : Result Unit Refusal) (p : OfWrite Sent) → WriterAllowed (writer_fixed o p) → ⊥
unfolding writer_fixed
writer-fixed o p ok =
    let e = (ok ready 0 batch₀ [] [] area₀).told.refusal ∙ done in
    let q = (ok ready 9 batch₀ [] [] area₀).told.refusal ∙ refused_13 in
    omega (arith, e, q)

-- ---- "One that leaves areas and state as found"

pub reader-as-found : (says : OfRead Answer) → ReaderAllowed (reader_as_found says) → ⊥
unfolding reader_as_found class_area
reader-as-found says ok =
    let o = ok fresh frame₀ held₀ units₀ records₀ in
    let e : units₀ ≡ laid units₀ 0 (joined (octets_of (made_in fresh frame₀ held₀).units)) = rw (o.class accepted ∙ class_read) at o.units in
    let z : get_or units₀ 0 0 ≡ 0 = ap (λ (xs : List ℕ). get_or xs 0 0) e ∙ first_octet in
    omega (arith, z, units_octet)

pub writer-as-found : (says : OfWrite (Result Unit Refusal)) → WriterAllowed (writer_as_found says) → ⊥
unfolding writer_as_found outcome_leaves
writer-as-found says ok =
    let o = ok ready 0 batch₀ [] [] area₀ in
    let e = rw (o.told.done done) at o.frame in
    let z : get_or area₀ 0 0 ≡ 0xC0 = ap (λ (xs : List ℕ). get_or xs 0 0) e ∙ frame_octet in
    omega (arith, z, area_octet)

-- ---- "One that reads its first frame and then only says so": of frame 1, after frame 0

pub reader-once : (says : OfRead Answer) → ReaderAllowed (reader_once says) → ⊥
unfolding reader_once reader_as_found class_area
reader-once says ok =
    let o = rw tried at (ok after.taken.state frame₁ after.held_area units₀ records₀) in
    let e = rw (o.class second_accepted ∙ second-read) at o.units in
    let z : get_or units₀ 0 0 ≡ 0 = ap (λ (xs : List ℕ). get_or xs 0 0) e ∙ second_octet in
    omega (arith, z, units_octet)

-- ---- "One that invents missing, idle, fill or dropped": frame 0 has none of them

-- The rules' own answer to frame 0, and what the promise makes of another in its place.
first-answer : values_in after.taken.answer ≡ record { units = 1; octets = 10; missing = 0; idle = 0; fill = 0; dropped = 0 }
unfolding rules fresh held₀ units₀ records₀ after values_in
first-answer = refl

other_answer : (other : Answer → Answer) → ReaderAllowed (reader_answering other)
    → values_in (other after.taken.answer) ≡ record { units = 1; octets = 10; missing = 0; idle = 0; fill = 0; dropped = 0 }
unfolding reader_answering reader_fixed after
other_answer other ok =
    let o = ok fresh frame₀ held₀ units₀ records₀ in
    o.values ∙ ap (λ (k : Class). class_values k (gap_in fresh frame₀) (made_in fresh frame₀ held₀)) (o.class accepted ∙ class_read) ∙ nothing-lost

no_number : (n x : ℕ) → x ≡ 0 → invented n x ≡ 0 → ⊥
unfolding invented
no_number n x e q = let z : suc n ≡ 0 = rw e at q in omega (arith, z)

pub invents-missing : (n : ℕ) → ReaderAllowed (invents_missing n) → ⊥
unfolding invents_missing values_in
invents-missing n ok = no_number n _ (ap (λ (v : Values). v.missing) first-answer) (ap (λ (v : Values). v.missing) (other_answer _ ok))

pub invents-idle : (n : ℕ) → ReaderAllowed (invents_idle n) → ⊥
unfolding invents_idle values_in
invents-idle n ok = no_number n _ (ap (λ (v : Values). v.idle) first-answer) (ap (λ (v : Values). v.idle) (other_answer _ ok))

pub invents-fill : (n : ℕ) → ReaderAllowed (invents_fill n) → ⊥
unfolding invents_fill values_in
invents-fill n ok = no_number n _ (ap (λ (v : Values). v.fill) first-answer) (ap (λ (v : Values). v.fill) (other_answer _ ok))

pub invents-dropped : (n : ℕ) → ReaderAllowed (invents_dropped n) → ⊥
unfolding invents_dropped values_in
invents-dropped n ok = no_number n _ (ap (λ (v : Values). v.dropped) first-answer) (ap (λ (v : Values). v.dropped) (other_answer _ ok))

-- ---- looks

pub looker-refusing : (n : OfLook ℕ) → LookerAllowed (looker_refusing n) → ⊥
unfolding looker_refusing
looker-refusing n ok =
    let e = (ok fresh frame₀).class look_accepted ∙ class_read in
    let z : ◌≡◌ {A = ℕ} 0 1 = cc in
    omega (arith, z)

pub looker-fixed : (o : Looked) → LookerAllowed (looker_fixed o) → ⊥
unfolding looker_fixed
looker-fixed o ok =
    let e = (ok fresh frame₀).refusal ∙ look_accepted in
    let q = (ok fresh []).refusal ∙ look-refused_3 in
    omega (arith, e, q)

first-look : (look fresh frame₀).missing ≡ 0
unfolding rules fresh
first-look = refl

-- A number of missing frames that is allowed is the one of the frame.
gone-missing : (other : ℕ → ℕ) → LookerAllowed (looker_missing other) → (r : Reader) (f : List ℕ) → given (look_refusals r f) ≡ 0
    → class_in r f ≡ Class.Read → other (look r f).missing ≡ missing_in r f
unfolding looker_missing class_missing
gone-missing other ok r f a k =
    let o = ok r f in
    o.missing ∙ ap (λ (x : Class). class_missing x (missing_in r f)) (o.class a ∙ k)

pub look-invents : (n : ℕ) → LookerAllowed (look_invents n) → ⊥
unfolding look_invents
look-invents n ok =
    no_number n _ first-look (gone-missing _ ok fresh frame₀ look_accepted class_read ∙ none-gone)

-- "A look that leaves out missing."
pub look-leaves-out : LookerAllowed look_leaves_out → ⊥
unfolding look_leaves_out
look-leaves-out ok =
    let e = gone-missing _ ok after.taken.state gone gone_accepted gone_class ∙ gone_four in
    omega (arith, e)
