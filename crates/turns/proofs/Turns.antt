-- From frame to frame, and from turn to turn.
use Prim.Native.Nat.{ℕ, ◌+◌, ◌-◌, ◌*◌, ◌≤◌}
use mathlib.Core.Path.{◌≡◌, refl, sym, ap, ap₂, subst, ◌∙◌}
use mathlib.Core.Bool.{Bool, true, false, cond}
use mathlib.Core.List.{List, ◌++◌, append_assoc}
use lib.ListN.{length, take, drop}
use lib.Seq.{length-take-le, drop-drop}
use Rattle.std.specs.Prelude.{Option, Some}
use Rattle.std.specs.Prelude.{Result, Ok, Err}
use Rattle.rules.specs.declared.Refusal.{Refusal}
use Rattle.rules.specs.Tests.{number_of}
use Rattle.rules.specs.declared.Sender.{Sender}
use Rattle.rules.specs.Areas.{laid}
use Rattle.rules.specs.Calls.{write, Sent as Written}
use Rattle.streams.specs.declared.Fault.{Fault}
use Rattle.streams.specs.declared.Fault.TheVariants as faults
use Rattle.streams.specs.declared.Stream.{Stream}
use Rattle.streams.specs.declared.Begun.{Begun}
use Rattle.streams.specs.Streams.{sound, moved, Began}
use Rattle.streams.proofs.Streams.{shifted}
use Rattle.turns.specs.declared.Course.{Course}
use Rattle.turns.specs.declared.Step.{Step}
use Rattle.turns.specs.declared.Move.{Move}
use Rattle.turns.specs.declared.Source.{Source}
use Rattle.turns.specs.Courses.{sent_fault, one_more, area_before, course_of, sent_on, SentNext, FrameOf, CourseOn, goes_on, counted, ended}
use Rattle.turns.specs.Turns.{worked, Over, On, Worked, Turned, begun, none, Taken, own, TakenAt}

-- ---- frames

module _ (c : Course) (l : ℕ) (batch insert ocf : List ℕ) {x : Sender} {area : List ℕ}
    (e : record { sender = x; area = area } ≡ write c.state l batch insert ocf area_before) where
  -- What the writer answers, whichever it is.
  answered : (c' : Course) → c' ≡ course_of c x.outcome x.state (sound c'.fault) → SentNext c l batch insert ocf c'
  unfolding sent_on
  answered c' q = q ∙ ap (λ (y : Written). course_of c y.sender.outcome y.sender.state (sound c'.fault)) e

  pub sent-done : (f : Option Fault) (m : ℕ) → x.outcome ≡ Ok tt → f ≡ sent_fault (sound f) → m ≡ one_more c.frames
      → SentNext c l batch insert ocf (record { state = x.state; frames = m; octets = c.octets; fault = f })
  unfolding course_of
  sent-done f m o h k =
      answered (record { state = x.state; frames = m; octets = c.octets; fault = f })
      (subst (λ (y : Result Unit Refusal). record { state = x.state; frames = m; octets = c.octets; fault = f } ≡ course_of c y x.state (sound f)) (sym o)
      (ap₂ (λ (g : Option Fault) (i : ℕ). record { state = x.state; frames = i; octets = c.octets; fault = g }) h k))

  pub sent-refused : (n : ℕ) (r : Refusal) → n ≡ number_of r → x.outcome ≡ Err r
      → SentNext c l batch insert ocf (record { state = x.state; frames = c.frames; octets = c.octets; fault = Some (faults.Refused n) })
  unfolding course_of
  sent-refused n r m o =
      let d : Course = record { state = x.state; frames = c.frames; octets = c.octets; fault = Some (faults.Refused n) } in
      answered d (subst (λ (y : Result Unit Refusal). d ≡ course_of c y x.state (sound d.fault)) (sym o)
      (ap (λ (i : ℕ). record { state = x.state; frames = c.frames; octets = c.octets; fault = Some (faults.Refused i) }) m))

  -- What the area holds after the write is the frame.
  pub frame-by : (end : ℕ) → take end area ≡ take c.state.setting.length area → FrameOf c.state l batch insert ocf (take end area)
  frame-by end t = t ∙ ap (λ (y : Written). take c.state.setting.length y.area) e

-- ---- batches

module _ (writing : Bool) (c : Course) (s : Stream) (insert ocf area : List ℕ) (n : ℕ) (d : Course) {more : Bool} (t : take n area ≡ take s.batch area)
    (q : CourseOn writing c s.lane (take n area) insert ocf d) (g : more ≡ goes_on d s.lane) where
  course : CourseOn writing c s.lane (take s.batch area) insert ocf d
  course = subst (λ (b : List ℕ). CourseOn writing c s.lane b insert ocf d) t q

  pub worked-on : more ≡ true → Worked writing c s insert ocf area (record { course = d; stream = s; more = true }) area
  worked-on m = record {
    sent = d;
    course = course;
    after =
        subst (λ (b : Bool). cond b (On d s area (record { course = d; stream = s; more = true }) area)
        (Over d s area (record { course = d; stream = s; more = true }) area))
        (sym m ∙ g) (record { turn = refl; stays = refl });
  }

  pub worked-over : {r : Step} {area' : List ℕ} → more ≡ false → Over d s area r area' → Worked writing c s insert ocf area r area'
  worked-over {r} {area'} m o = record {
    sent = d;
    course = course;
    after = subst (λ (b : Bool). cond b (On d s area r area') (Over d s area r area')) (sym m ∙ g) o;
  }

pub over_by : (d : Course) (s : Stream) (area ys : List ℕ) {have : ℕ} {t : Stream} {e : Course} {more : Bool} → have ≤ length area
    → take have area ≡ take s.window.have area → ys ≡ laid (take have area) 0 (drop s.batch (take have area)) → t ≡ worked s have
    → e ≡ counted d s.batch → more ≡ sound d.fault
    → Over d s area (record { course = e; stream = t; more = more }) (ys ++ drop have area)
unfolding worked moved
over_by d s area ys {have} {t} {e} {more} h q z a b m =
    let k : length (take have area) ≡ have = length-take-le have area h in
    let i : t.window.have ≡ have - s.batch = ap (λ (u : Stream). u.window.have) a in
    record {
      course = b;
      stream = a ∙ ap (λ (n : ℕ). worked s n) (sym k ∙ ap (λ (xs : List ℕ). length xs) q);
      more = m;
      left = ap (λ (n : ℕ). take n (ys ++ drop have area)) i ∙ ap (λ (xs : List ℕ). take (have - s.batch) (xs ++ drop have area)) z
          ∙ shifted area have s.batch h ∙ ap (λ (xs : List ℕ). drop s.batch xs) q;
    }

-- ---- turns

module _ (writing : Bool) (c : Course) (s : Stream) (insert ocf area list : List ℕ) (have : ℕ) {b : Begun} {list' : List ℕ} (z : s.batch ≡ 0)
    (t : take have area ≡ take s.window.have area) (q : Began s (take have area) list b list') where
  begins : Began s (take s.window.have area) list b list'
  begins = subst (λ (xs : List ℕ). Began s xs list b list') t q

  pub turned-begun : {r : Step} {area' : List ℕ} → (b.stream.batch ≡ 0 → ⊥) → Worked writing c b.stream insert ocf area r area'
      → Turned writing c s insert ocf area list r area' list'
  turned-begun n w = begun z begins n w

  pub turned_none : {d : Course} → b.stream.batch ≡ 0 → d ≡ ended c b.fault
      → Turned writing c s insert ocf area list (record { course = d; stream = b.stream; more = false }) area list'
  turned_none n e = none z begins n refl (ap (λ (x : Course). record { course = x; stream = b.stream; more = false }) e)

-- A part that was lent, back in its place.
pub own-laid : (area ys : List ℕ) (from n : ℕ) → length ys ≡ n → take from area ++ (ys ++ drop n (drop from area)) ≡ laid area from ys
unfolding laid
own-laid area ys from n l =
    sym (append_assoc (take from area) ys (drop n (drop from area)))
    ∙ ap (λ (zs : List ℕ). take from area ++ ys ++ zs) (drop-drop n from area ∙ ap (λ (i : ℕ). drop (from + i) area) (sym l))

-- The turn of file k, of which n octets and m of its list were lent.
pub taken_at : (k : ℕ) (writing : Bool) (c : Course) (x : Source) (insert ocf areas lists : List ℕ) (n m : ℕ) {r : Move} {area list : List ℕ} → n ≡ 65536
    → m ≡ 256 → Taken writing c x insert ocf (take n (drop (65536 * k) areas)) (take m (drop (256 * k) lists)) r area list → length area ≡ n → length list ≡ m
    → TakenAt k writing c x insert ocf areas lists r (take (65536 * k) areas ++ (area ++ drop n (drop (65536 * k) areas)))
    (take (256 * k) lists ++ (list ++ drop m (drop (256 * k) lists)))
taken_at k writing c x insert ocf areas lists n m {r} {area} {list} p q t a l = record {
  area = area;
  list = list;
  taken = subst (λ (i : ℕ). Taken writing c x insert ocf (take i (drop (65536 * k) areas)) (own 256 k lists) r area list) p
      (subst (λ (i : ℕ). Taken writing c x insert ocf (take n (drop (65536 * k) areas)) (take i (drop (256 * k) lists)) r area list) q t);
  window = own-laid areas area (65536 * k) n a;
  listed = own-laid lists list (256 * k) m l;
}
