-- The promises. Each call's rule keeps its own, and nothing else does: outcomes allowed for one input are equal. So what keeps a promise is
-- what the rule gives, and its refusals are the paper's numbers.
use mathlib.Core.Path.{◌≡◌, refl, sym, ap, ap₂, ◌∙◌}
use mathlib.Core.Logic.{◌⊎◌, inl, inr}
use Prim.Native.Nat.{ℕ, zero, suc}
use native.Mathlib.Omega.{arith}
use mathlib.Core.Bool.{Bool, true, false, cond, not, ◌&&◌, ◌||◌, true≢false}
use mathlib.Core.List.{List, [], ◌∷◌}
use borrow.Author.Tests.{eqb-true, eq-eqb, ne_eqb, not-false}
use Rattle.rules.specs.declared.Setting.{Setting}
use Rattle.rules.specs.declared.Reader.{Reader}
use Rattle.rules.specs.declared.Writer.{Writer}
use Rattle.std.specs.Prelude.{Result, Ok, Err, get_or, ◌-◌, Option, Some, None}
use Rattle.rules.specs.declared.Refusal.{Refusal}
use Rattle.rules.specs.declared.Class.{Class}
use Rattle.rules.specs.declared.Answer.{Answer}
use Rattle.rules.specs.declared.Taken.{Taken}
use Rattle.rules.specs.declared.Listener.{Listener}
use Rattle.rules.specs.declared.Looked.{Looked}
use Rattle.rules.specs.declared.Sender.{Sender}
use Rattle.rules.specs.declared.Verdict.{Verdict}
use Rattle.rules.specs.Tests.{◌=?◌, none, number_of, Row, given, answered}
use Rattle.rules.specs.Settings.{channel, lane, setting_ok, fresh_reader, fresh_writer, no_reader, no_writer}
use Rattle.rules.specs.Frames.{vc, map, bypass, command, count_in}
use Rattle.rules.specs.Refusals.{channel_at, lane_at, refusals_at, refusals, on_channel, passed, judged}
use Rattle.rules.specs.Calls.{refusal_of, class_refusal, set_up_reader, set_up_writer, Sent, write_refusals, written, write, Got, laid_out, read_on, repeats_at, again, on_verdict, read_refusals, verdict, read, look_refusals, looked, on_look, look}
use Rattle.rules.specs.Promises.{reader_numbers, writer_numbers, set_up_numbers, look_numbers, among, Told, outcome_leaves, set_up_refusals, ReaderStarts, WriterStarts, WriteGives, placed, channel_in, lane_in, class_in, count_of, gap_in, made_in, Values, values_in, class_values, class_state, class_area, ReadGives, missing_in, class_missing, class_channel, class_lane, LookGives}
use Rattle.rules.proofs.Tests.{and_left, some_number, given-zero, first_found, Found}
use Rattle.rules.specs.Valid.{Good}
use Rattle.rules.proofs.Valid.{good_reader}
use Rattle.rules.proofs.Judged.{Clear, clear}
use Rattle.rules.proofs.Calls.{answered-given}
use Rattle.rules.proofs.States.{gap-setting}

-- ---- the paper's number, and what it says of the case

-- The number of a refusal that is given is one of the table's.
numbers : List Row → List ℕ
numbers [] = []
numbers (r ∷ rs) = number_of r.refusal ∷ numbers rs

given-among : (rs : List Row) → (given rs ≡ 0) ⊎ (among (given rs) (numbers rs) ≡ true)
unfolding given among numbers
given-among [] = inl refl
given-among (r ∷ rs) = go r.applies (given-among rs)
  where
    or_right : (a b : Bool) → b ≡ true → (a || b) ≡ true
    or_right true b e = refl
    or_right false b e = e

    Either : ℕ → Type 0
    Either n = (n ≡ 0) ⊎ ((n =? number_of r.refusal || among n (numbers rs)) ≡ true)

    go : (t : Bool) → (given rs ≡ 0) ⊎ (among (given rs) (numbers rs) ≡ true) → Either (cond t (number_of r.refusal) (given rs))
    go true e = inr (rw (eq-eqb (number_of r.refusal) (number_of r.refusal) refl))
    go false (inl e) = inl e
    go false (inr e) = inr (or_right (given rs =? number_of r.refusal) (among (given rs) (numbers rs)) e)

-- Which refusal it is, by its number.
abbrev by-number : List Refusal
by-number =
    Refusal.Invalid ∷ Refusal.AreaShort ∷ Refusal.Length ∷ Refusal.Check ∷ Refusal.Version ∷ Refusal.Craft ∷ Refusal.HeaderEnd ∷ Refusal.Fields
    ∷ Refusal.Unlisted ∷ Refusal.CountLength ∷ Refusal.OcfFlag ∷ Refusal.DataField ∷ Refusal.NoLane ∷ Refusal.Batch ∷ Refusal.Parts ∷ Refusal.FrameNumber ∷ []

number-once : (a b : Refusal) → number_of a ≡ number_of b → a ≡ b
number-once a b e = sym (back a) ∙ ap (λ (n : ℕ). get_or by-number (n - 1) Refusal.Invalid) e ∙ back b
  where
    back : (e : Refusal) → get_or by-number (number_of e - 1) Refusal.Invalid ≡ e
    back Refusal.Invalid = refl
    back Refusal.AreaShort = refl
    back Refusal.Length = refl
    back Refusal.Check = refl
    back Refusal.Version = refl
    back Refusal.Craft = refl
    back Refusal.HeaderEnd = refl
    back Refusal.Fields = refl
    back Refusal.Unlisted = refl
    back Refusal.CountLength = refl
    back Refusal.OcfFlag = refl
    back Refusal.DataField = refl
    back Refusal.NoLane = refl
    back Refusal.Batch = refl
    back Refusal.Parts = refl
    back Refusal.FrameNumber = refl

-- An outcome is told by its number: 0 is done.
told-once : (rs : List Row) (a b : Result Unit Refusal) → Told rs a → Told rs b → a ≡ b
unfolding refusal_of
told-once rs (Ok x) b p q = sym (q.done (sym p.refusal))
told-once rs (Err x) (Ok y) p q = p.done (sym q.refusal)
told-once rs (Err x) (Err y) p q = ap Err (number-once x y (p.refusal ∙ sym q.refusal))

-- What the rows answer is told so.
told-answered : (rs : List Row) → Told rs (answered rs)
unfolding refusal_of
told-answered rs = record { refusal = answered-given rs; done = λ z. none (answered rs) (answered-given rs ∙ z) }
  where
    none : (r : Result Unit Refusal) → refusal_of r ≡ 0 → r ≡ Ok tt
    none (Ok x) z = refl
    none (Err e) z = absurd (some_number e z)

-- One that is refused has a number of its table.
told-among : (rs : List Row) (o : Result Unit Refusal) → Told rs o → (n : Refusal) → o ≡ Err n → among (number_of n) (numbers rs) ≡ true
unfolding refusal_of
told-among rs o t n e = go (given-among rs)
  where
    go : (given rs ≡ 0) ⊎ (among (given rs) (numbers rs) ≡ true) → among (number_of n) (numbers rs) ≡ true
    go (inl z) = let d = t.done z in let b : ◌≡◌ {A = ℕ} 0 1 = cc in absurd (omega arith)
    go (inr q) = rw (ap refusal_of (sym e) ∙ t.refusal) q

-- A class likewise, where 0 is the class k.
class_once : (k a b : Class) (n : ℕ) → class_refusal a ≡ n → (n ≡ 0 → a ≡ k) → class_refusal b ≡ n → (n ≡ 0 → b ≡ k) → a ≡ b
unfolding class_refusal
class_once k Class.Idle b n p d q e = d (sym p) ∙ sym (e (sym p))
class_once k Class.Counted b n p d q e = d (sym p) ∙ sym (e (sym p))
class_once k Class.Read b n p d q e = d (sym p) ∙ sym (e (sym p))
class_once k Class.Repeat b n p d q e = d (sym p) ∙ sym (e (sym p))
class_once k (Class.Refused x) Class.Idle n p d q e = d (sym q) ∙ sym (e (sym q))
class_once k (Class.Refused x) Class.Counted n p d q e = d (sym q) ∙ sym (e (sym q))
class_once k (Class.Refused x) Class.Read n p d q e = d (sym q) ∙ sym (e (sym q))
class_once k (Class.Refused x) Class.Repeat n p d q e = d (sym q) ∙ sym (e (sym q))
class_once k (Class.Refused x) (Class.Refused y) n p d q e = ap Class.Refused (p ∙ sym q)

-- ---- set-up

module _ (s : Setting) where
  start-told : (t : Bool) → setting_ok s ≡ t → Told (set_up_refusals s) (cond t (Ok tt) (Err Refusal.Invalid))
  unfolding set_up_refusals given refusal_of
  start-told true e = record { refusal = rw e; done = λ z. refl }
  start-told false e = record { refusal = rw e; done = λ z. absurd (omega (arith, rw e at z)) }

  pub reader-starts : ReaderStarts s (set_up_reader s)
  unfolding set_up_reader outcome_leaves
  reader-starts = go (setting_ok s) refl
    where
      go : (t : Bool) → setting_ok s ≡ t
          → ReaderStarts s (cond t (record { outcome = Ok tt; state = fresh_reader s }) (record { outcome = Err Refusal.Invalid; state = no_reader }))
      go true e = record { told = start-told true e; state = refl }
      go false e = record { told = start-told false e; state = refl }

  pub writer-starts : WriterStarts s (set_up_writer s)
  unfolding set_up_writer outcome_leaves
  writer-starts = go (setting_ok s) refl
    where
      go : (t : Bool) → setting_ok s ≡ t
          → WriterStarts s (cond t (record { outcome = Ok tt; state = fresh_writer s }) (record { outcome = Err Refusal.Invalid; state = no_writer }))
      go true e = record { told = start-told true e; state = refl }
      go false e = record { told = start-told false e; state = refl }

  -- Outcomes allowed for one input are equal.
  pub reader-starts-once : (a b : Listener) → ReaderStarts s a → ReaderStarts s b → a ≡ b
  reader-starts-once a b p q =
      let e : a.outcome ≡ b.outcome = told-once _ _ _ p.told q.told in
      ap₂ (λ (o : Result Unit Refusal) (r : Reader). record { outcome = o; state = r }) e (p.state ∙ rw e (sym q.state))

  pub writer-starts-once : (a b : Sender) → WriterStarts s a → WriterStarts s b → a ≡ b
  writer-starts-once a b p q =
      let e : a.outcome ≡ b.outcome = told-once _ _ _ p.told q.told in
      ap₂ (λ (o : Result Unit Refusal) (w : Writer). record { outcome = o; state = w }) e (p.state ∙ rw e (sym q.state))

  pub reader-starts-by : (a : Listener) → a ≡ set_up_reader s → ReaderStarts s a
  reader-starts-by a e = rw e reader-starts

  pub writer-starts-by : (a : Sender) → a ≡ set_up_writer s → WriterStarts s a
  writer-starts-by a e = rw e writer-starts

  pub reader-starts-is : (a : Listener) → ReaderStarts s a → a ≡ set_up_reader s
  reader-starts-is a p = reader-starts-once a (set_up_reader s) p reader-starts

  pub writer-starts-is : (a : Sender) → WriterStarts s a → a ≡ set_up_writer s
  writer-starts-is a p = writer-starts-once a (set_up_writer s) p writer-starts

  -- "Set-up 1."
  pub reader-starts-number : (a : Listener) → ReaderStarts s a → (n : Refusal) → a.outcome ≡ Err n → among (number_of n) set_up_numbers ≡ true
  unfolding set_up_refusals numbers
  reader-starts-number a p n e = told-among _ _ p.told n e

  pub writer-starts-number : (a : Sender) → WriterStarts s a → (n : Refusal) → a.outcome ≡ Err n → among (number_of n) set_up_numbers ≡ true
  unfolding set_up_refusals numbers
  writer-starts-number a p n e = told-among _ _ p.told n e

-- ---- write

module _ (w : Writer) (l : ℕ) (batch insert ocf area : List ℕ) where
  abbrev pub Gives : Sent → Type 0
  Gives o = WriteGives w l batch insert ocf area o.sender o.area

  pub write-gives : Gives (write w l batch insert ocf area)
  unfolding write refusal_of outcome_leaves
  write-gives = go (answered (write_refusals w l batch insert ocf area)) (told-answered (write_refusals w l batch insert ocf area))
    where
      go : (r : Result Unit Refusal) → Told (write_refusals w l batch insert ocf area) r → Gives (written w l batch insert ocf area r)
      go (Ok x) t = unfold written in record { told = t; state = refl; frame = refl }
      go (Err n) t = unfold written in record { told = t; state = refl; frame = refl }

  -- Outcomes allowed for one input are equal.
  pub write-once : (a b : Sent) → Gives a → Gives b → a ≡ b
  write-once a b p q =
      let e : a.sender.outcome ≡ b.sender.outcome = told-once _ _ _ p.told q.told in
      let f : a.sender.state ≡ b.sender.state = p.state ∙ rw e (sym q.state) in
      let g : a.area ≡ b.area = p.frame ∙ rw e (sym q.frame) in
      ap₂ (λ (s : Sender) (x : List ℕ). record { sender = s; area = x })
      (ap₂ (λ (o : Result Unit Refusal) (v : Writer). record { outcome = o; state = v }) e f) g

  pub write-by : (a : Sent) → a ≡ write w l batch insert ocf area → Gives a
  write-by a e = rw e write-gives

  pub write-is : (a : Sent) → Gives a → a ≡ write w l batch insert ocf area
  write-is a p = write-once a (write w l batch insert ocf area) p write-gives

  -- "Writer 1, 2, 13 to 16."
  pub write-number : (a : Sent) → Gives a → (n : Refusal) → a.sender.outcome ≡ Err n → among (number_of n) writer_numbers ≡ true
  unfolding write_refusals numbers
  write-number a p n e = told-among _ _ p.told n e

-- ---- read: an answer is its class and its values; what comes back is the answer, the state and three areas

answer-same : (a b : Answer) → a.class ≡ b.class → values_in a ≡ values_in b → a ≡ b
unfolding values_in
answer-same a b k v =
    ap₂
    (λ (x : Class) (y : Values).
    record { class = x; units = y.units; octets = y.octets; missing = y.missing; idle = y.idle; fill = y.fill; dropped = y.dropped })
    k v

got_same : (a b : Got) → a.taken ≡ b.taken → a.held_area ≡ b.held_area → a.unit_area ≡ b.unit_area → a.record_area ≡ b.record_area → a ≡ b
got_same a b t x y z =
    ap₂ (λ (o : Taken) (i : List ℕ). record { taken = o; held_area = i; unit_area = a.unit_area; record_area = a.record_area }) t x
    ∙ ap₂ (λ (i j : List ℕ). record { taken = b.taken; held_area = b.held_area; unit_area = i; record_area = j }) y z

-- ---- a frame that passes the checks

-- Its class, channel and lane are those of the verdict.
abbrev Passes : Reader → List ℕ → Verdict → Type 0
Passes r f (Verdict.Refused n) = ⊥
Passes r f Verdict.Idle = class_in r f ≡ Class.Idle
Passes r f (Verdict.Counted k) = (channel_in r.setting f ≡ k) × (class_in r f ≡ Class.Counted)
Passes r f (Verdict.Read l) = (channel_in r.setting f ≡ (lane r.setting l).channel) × (lane_in r.setting f ≡ l) × (class_in r f ≡ Class.Read)
Passes r f (Verdict.Repeat k) = (channel_in r.setting f ≡ k) × (class_in r f ≡ Class.Repeat)

module _ (r : Reader) (f : List ℕ) where
  abbrev s : Setting
  s = r.setting

  -- Of a frame of channel k: whether it is a repeat, and else whether it is a command or its map in no lane.
  class-other : vc f =? 63 ≡ false → (k : ℕ) → channel_in s f ≡ k → (p : Option ℕ) → lane_at s k (map f) ≡ p → (t : Bool) → command f =? 1 ≡ t
      → (b : Bool) → repeats_at r k (count_in (channel s k) f) ≡ b → class_in r f ≡ cond b Class.Repeat (cond (t || none p) Class.Counted Class.Read)
  unfolding class_in count_of
  class-other e k q p o t a b z = rw (e, q, o, a, z)

  lane-passes : vc f =? 63 ≡ false → (k : ℕ) → channel_in s f ≡ k → (p : Option ℕ) → lane_at s k (map f) ≡ p
      → Found (λ (l : ℕ). (lane s l).channel =? k && (lane s l).map =? map f) s.numbered p → Passes r f (again r f (on_channel f k p))
  unfolding again on_channel lane_in
  lane-passes e k q None o i = go (command f =? 1) refl (repeats_at r k (count_in (channel s k) f)) refl
    where
      go : (t : Bool) → command f =? 1 ≡ t → (b : Bool) → repeats_at r k (count_in (channel s k) f) ≡ b
          → Passes r f (cond b (Verdict.Repeat k) (Verdict.Counted k))
      go t a true z = (q, class-other e k q None o t a true z)
      go true a false z = (q, class-other e k q None o true a false z)
      go false a false z = (q, class-other e k q None o false a false z)
  lane-passes e k q (Some l) o i = go (command f =? 1) refl (repeats_at r k (count_in (channel s k) f)) refl
    where
      on : (lane s l).channel ≡ k
      on = eqb-true _ _ (and_left _ _ i.1)

      go : (t : Bool) → command f =? 1 ≡ t → (b : Bool) → repeats_at r k (count_in (channel s k) f) ≡ b
          → Passes r f (again r f (cond t (Verdict.Counted k) (Verdict.Read l)))
      go true a true z = rw z (q, class-other e k q (Some l) o true a true z)
      go true a false z = rw z (q, class-other e k q (Some l) o true a false z)
      go false a true z = rw (on, z) (q, class-other e k q (Some l) o false a true z)
      go false a false z = rw (on, z) (q ∙ sym on, rw q (ap placed o), class-other e k q (Some l) o false a false z)

  channel-passes : Good s → (p : Option ℕ) → channel_at s (vc f) (bypass f) ≡ p
      → Found (λ (k : ℕ). (channel s k).vc =? vc f && (channel s k).service =? bypass f) s.listed p → Clear s f p
      → Passes r f (again r f (passed s f p))
  unfolding passed channel_in lane_at again
  channel-passes g None q i k = go (vc f =? 63) refl k.row₉
    where
      go : (t : Bool) → vc f =? 63 ≡ t → (not t && true) ≡ false → class_in r f ≡ Class.Idle
      go true e z = unfold class_in in rw e
      go false e z = absurd (true≢false z)
  channel-passes g (Some j) q i k =
      let v : (channel s j).vc ≡ vc f = eqb-true _ _ (and_left _ _ i.1) in
      lane-passes (ne_eqb (vc f) 63 (λ (e : vc f ≡ 63). omega (arith, v, e, (g.channels j i.0).vc))) j (ap placed q) (lane_at s j (map f)) refl
      (first_found _ s.numbered)

  passes : Good s → given (refusals s f) ≡ 0 → Passes r f (again r f (passed s f (channel_at s (vc f) (bypass f))))
  unfolding refusals channel_at
  passes g e = channel-passes g (channel_at s (vc f) (bypass f)) refl (first_found _ s.listed) (clear e)

  -- No frame that passes is refused.
  class-given : (n : ℕ) → class_in r f ≡ Class.Refused n → ⊥
  unfolding class_in
  class-given n e =
      never (vc f =? 63) (repeats_at r (channel_in s f) (count_of s f)) (command f =? 1 || none (lane_at s (channel_in s f) (map f))) e
    where
      never : (t b t' : Bool) → cond t Class.Idle (cond b Class.Repeat (cond t' Class.Counted Class.Read)) ≡ Class.Refused n → ⊥
      never true b t' q = let z : ◌≡◌ {A = ℕ} 0 1 = cc in omega (arith, z)
      never false true t' q = let z : ◌≡◌ {A = ℕ} 0 1 = cc in omega (arith, z)
      never false false true q = let z : ◌≡◌ {A = ℕ} 0 1 = cc in omega (arith, z)
      never false false false q = let z : ◌≡◌ {A = ℕ} 0 1 = cc in omega (arith, z)

  -- A refusal by a class has a number of its table.
  class-among : (rs : List Row) (k : Class) → class_refusal k ≡ given rs → (given rs ≡ 0 → k ≡ class_in r f) → (n : ℕ) → k ≡ Class.Refused n
      → among n (numbers rs) ≡ true
  unfolding class_refusal
  class-among rs k e d n q = go (given-among rs)
    where
      go : (given rs ≡ 0) ⊎ (among (given rs) (numbers rs) ≡ true) → among n (numbers rs) ≡ true
      go (inl z) = absurd (class-given n (sym (d z) ∙ q))
      go (inr z) = rw (ap class_refusal (sym q) ∙ e) z

-- ---- read

module _ (r : Reader) (f h u c : List ℕ) where
  abbrev pub Keeps : Got → Type 0
  Keeps o = ReadGives r f h u c o.taken o.held_area o.unit_area o.record_area

  -- A refusal, or none.
  refused-gives : (n : ℕ) → given (read_refusals r f h u c) ≡ suc n → Keeps (on_verdict (Verdict.Refused (suc n)) r f h u c)
  unfolding on_verdict class_refusal values_in class_values class_state class_area
  refused-gives n e =
      record {
        refusal = sym e;
        class = λ z. absurd (omega (arith, sym e ∙ z));
        values = refl;
        state = refl;
        held = refl;
        units = refl;
        records = refl;
      }

  passed-gives : given (read_refusals r f h u c) ≡ 0 → (v : Verdict) → Passes r f v → Keeps (on_verdict v r f h u c)
  unfolding on_verdict read_on laid_out class_refusal values_in class_values class_state class_area gap_in made_in count_of
  passed-gives z (Verdict.Refused n) p = absurd p
  passed-gives z Verdict.Idle e =
      record { refusal = sym z; class = λ i. sym e; values = refl; state = refl; held = refl; units = refl; records = refl }
  passed-gives z (Verdict.Counted k) p =
      record { refusal = sym z; class = λ i. sym p.1; values = rw p.0; state = rw p.0; held = refl; units = refl; records = refl }
  passed-gives z (Verdict.Read l) p =
      record {
        refusal = sym z;
        class = λ i. sym p.2;
        values = rw (p.0, p.1);
        state = rw (p.0, p.1);
        held = rw (p.0, p.1);
        units = rw (p.0, p.1);
        records = rw (p.0, p.1, gap-setting r (lane r.setting l).channel (count_in (channel r.setting (lane r.setting l).channel) f));
      }
  passed-gives z (Verdict.Repeat k) p =
      record { refusal = sym z; class = λ i. sym p.1; values = refl; state = refl; held = refl; units = refl; records = refl }

  -- The rule of a read keeps the promise.
  pub read-gives : Keeps (read r f h u c)
  unfolding read verdict read_refusals
  read-gives = go (given (read_refusals r f h u c)) refl
    where
      go : (n : ℕ) → given (read_refusals r f h u c) ≡ n → Keeps (on_verdict (again r f (judged r.setting f n)) r f h u c)
      go zero e =
          unfold judged in
          let r₁ = given-zero _ _ e in
          let r₂ = given-zero _ _ r₁.1 in
          passed-gives e (again r f (passed r.setting f (channel_at r.setting (vc f) (bypass f))))
          (passes r f (good_reader r (not-false _ r₁.0)).setting r₂.1)
      go (suc n) e = unfold judged again in refused-gives n e

  -- Outcomes allowed for one input are equal.
  pub read-once : (a b : Got) → Keeps a → Keeps b → a ≡ b
  read-once a b p q =
      let k : a.taken.answer.class ≡ b.taken.answer.class = class_once _ _ _ _ p.refusal p.class q.refusal q.class in
      let v : values_in a.taken.answer ≡ values_in b.taken.answer = p.values ∙ rw k (sym q.values) in
      let t : a.taken.state ≡ b.taken.state = p.state ∙ rw k (sym q.state) in
      got_same a b (ap₂ (λ (x : Answer) (y : Reader). record { answer = x; state = y }) (answer-same _ _ k v) t)
      (p.held ∙ rw k (sym q.held)) (p.units ∙ rw k (sym q.units)) (p.records ∙ rw k (sym q.records))

  pub read_by : (a : Got) → a ≡ read r f h u c → Keeps a
  read_by a e = rw e read-gives

  pub read_is : (a : Got) → Keeps a → a ≡ read r f h u c
  read_is a p = read-once a (read r f h u c) p read-gives

  -- "Reader 1 to 12."
  pub read_number : (a : Got) → Keeps a → (n : ℕ) → a.taken.answer.class ≡ Class.Refused n → among n reader_numbers ≡ true
  unfolding read_refusals refusals refusals_at numbers
  read_number a p n e = class-among r f (read_refusals r f h u c) _ p.refusal p.class n e

-- ---- look

module _ (r : Reader) (f : List ℕ) where
  refused-looks : (n : ℕ) → given (look_refusals r f) ≡ suc n → LookGives r f (on_look (Verdict.Refused (suc n)) r f)
  unfolding on_look class_refusal class_missing class_channel class_lane
  refused-looks n e =
      record { refusal = sym e; class = λ z. absurd (omega (arith, sym e ∙ z)); missing = refl; channel = refl; lane = refl }

  passed-looks : given (look_refusals r f) ≡ 0 → (v : Verdict) → Passes r f v → LookGives r f (on_look v r f)
  unfolding on_look class_refusal class_missing class_channel class_lane missing_in count_of
  passed-looks z (Verdict.Refused n) p = absurd p
  passed-looks z Verdict.Idle e = record { refusal = sym z; class = λ i. sym e; missing = refl; channel = refl; lane = refl }
  passed-looks z (Verdict.Counted k) p =
      record { refusal = sym z; class = λ i. sym p.1; missing = rw p.0; channel = rw p.0; lane = refl }
  passed-looks z (Verdict.Read l) p =
      record { refusal = sym z; class = λ i. sym p.2; missing = rw p.0; channel = rw p.0; lane = rw p.1 }
  passed-looks z (Verdict.Repeat k) p = record { refusal = sym z; class = λ i. sym p.1; missing = refl; channel = rw p.0; lane = refl }

  -- The rule of a look keeps the promise.
  pub look-gives : LookGives r f (look r f)
  unfolding look looked look_refusals
  look-gives = go (given (look_refusals r f)) refl
    where
      go : (n : ℕ) → given (look_refusals r f) ≡ n → LookGives r f (on_look (again r f (judged r.setting f n)) r f)
      go zero e =
          unfold judged in
          let r₁ = given-zero _ _ e in
          passed-looks e (again r f (passed r.setting f (channel_at r.setting (vc f) (bypass f))))
          (passes r f (good_reader r (not-false _ r₁.0)).setting r₁.1)
      go (suc n) e = unfold judged again in refused-looks n e

  -- Answers allowed for one state and frame are equal.
  pub look-once : (a b : Looked) → LookGives r f a → LookGives r f b → a ≡ b
  look-once a b p q =
      let k : a.class ≡ b.class = class_once _ _ _ _ p.refusal p.class q.refusal q.class in
      let m : a.missing ≡ b.missing = p.missing ∙ rw k (sym q.missing) in
      let c : a.channel ≡ b.channel = p.channel ∙ rw k (sym q.channel) in
      let l : a.lane ≡ b.lane = p.lane ∙ rw k (sym q.lane) in
      ap₂ (λ (x : Class) (y : ℕ). record { class = x; missing = y; channel = a.channel; lane = a.lane }) k m
      ∙ ap₂ (λ (x y : Option ℕ). record { class = b.class; missing = b.missing; channel = x; lane = y }) c l

  pub look-by : (a : Looked) → a ≡ look r f → LookGives r f a
  look-by a e = rw e look-gives

  pub look_is : (a : Looked) → LookGives r f a → a ≡ look r f
  look_is a p = look-once a (look r f) p look-gives

  -- 1 and 3 to 12: "never gives 2".
  pub look-number : (a : Looked) → LookGives r f a → (n : ℕ) → a.class ≡ Class.Refused n → among n look_numbers ≡ true
  unfolding look_refusals refusals refusals_at numbers
  look-number a p n e = class-among r f (look_refusals r f) _ p.refusal p.class n e

pub two_in_none : among 2 look_numbers ≡ false
unfolding among
two_in_none = refl

-- No call answers Refused(0).
pub zero_in_none : (among 0 reader_numbers ≡ false) × (among 0 writer_numbers ≡ false) × (among 0 set_up_numbers ≡ false) × (among 0 look_numbers ≡ false)
unfolding among
zero_in_none = (refl, refl, refl, refl)
