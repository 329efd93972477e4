-- The calls: a refusal changes nothing; a valid state stays valid; units and records of any frame fit their areas.
use mathlib.Core.Path.{◌≡◌, refl, sym, ap, ◌∙◌}
use Prim.Native.Nat.{ℕ, ◌*◌, ◌≤◌, ◌<◌}
use native.Mathlib.Nat.{le_trans}
use native.Mathlib.Omega.{arith}
use mathlib.Core.Bool.{Bool, true, false, cond, not}
use mathlib.Core.List.{List, [], ◌∷◌}
use lib.ListN.{length, take, drop, length-take, length-drop}
use lib.Seq.{length-take-le}
use borrow.Author.Tests.{leb-false, ltb-false, eqb-true, not-false}
use Rattle.rules.specs.declared.Channel.{Channel}
use Rattle.rules.specs.declared.Setting.{Setting}
use Rattle.rules.specs.declared.Reader.{Reader}
use Rattle.rules.specs.declared.Writer.{Writer}
use Rattle.std.specs.Prelude.{Result, Ok, Err, IsErrAnd, IfOk}
use Rattle.rules.specs.declared.Refusal.{Refusal}
use Rattle.rules.specs.declared.Class.{Class}
use Rattle.rules.specs.declared.Answer.{Answer}
use Rattle.rules.specs.declared.Verdict.{Verdict}
use Rattle.rules.specs.declared.Gap.{Gap}
use Rattle.rules.specs.Tests.{Row, number_of, given, answered}
use Rattle.rules.specs.Areas.{joined, part, held_size, part_size, record_size, records_size, units_size}
use Rattle.rules.specs.Settings.{channel, lane, channel_of, held_by, number, zone_at, zone_for, zone, ocf_octets, setting_ok, reader_ok, writer_ok, fresh_reader, fresh_writer, no_reader, no_writer}
use Rattle.rules.specs.Frames.{count_in, rule_in, pointer_in, zone_in, points_to}
use Rattle.rules.specs.Writing.{batch_ok, frames}
use Rattle.rules.specs.Reading.{gap, octets_of, Made, keeps}
use Rattle.rules.specs.Refusals.{refusals, judged, judge}
use Rattle.rules.specs.Calls.{refusal_of, by_number, set_up_reader, set_up_writer, write_refusals, written, write, areas_short, bare, laid_out, holding, made_by, read_on, repeats_at, again, on_verdict, read_refusals, verdict, read}
use Rattle.std.proofs.lemmas.Bool.{or_parts}
use Rattle.rules.proofs.Tests.{given-zero}
use Rattle.rules.proofs.Areas.{length-laid}
use Rattle.rules.specs.Valid.{GoodKind, GoodSlot, GoodReader, GoodWriter}
use Rattle.rules.proofs.Valid.{good_reader, good_writer, good_channel_of}
use Rattle.rules.proofs.Lanes.{total, lane-total, lane_below, lane-few, Sound, MadeSound, lane-sound}
use Rattle.rules.proofs.Judged.{Judged, judge-facts}
use Rattle.rules.proofs.States.{reader-ok, writer-ok, fresh-reader, fresh-writer, no-reader, no-writer, gap-setting, good_gap, good-slot, frames-few, good_batch, good_after}

-- ---- a refusal as a number and as an answer

pub answered-given : (rs : List Row) → refusal_of (answered rs) ≡ given rs
unfolding refusal_of answered given
answered-given [] = refl
answered-given (r ∷ rs) =
    elim r.applies as (λ (t : Bool). refusal_of (cond {A = Result Unit Refusal} t (Err r.refusal) (answered rs)) ≡ cond t (number_of r.refusal) (given rs))
    [ true ↦ refl | false ↦ answered-given rs ]

-- What holds of an answer holds with the refusal in its number's place.
pub if_ok-by : {A : Type 0} (r : Result A Refusal) (P : A → Type 0) → IfOk (by_number r) P → IfOk r P
if_ok-by (Ok x) P h = h
if_ok-by (Err e) P h = h

-- A refusal that was passed on.
pub passed-on : {A : Type 0} (r : Result A Refusal) (P : A → Type 0) (e : Refusal) (x : Result A ℕ) → IsErrAnd r (λ (y : Refusal). y ≡ e)
    → Err (number_of e) ≡ x → (by_number r ≡ x) × IfOk r P
passed-on (Ok y) P e x h q = absurd h
passed-on (Err y) P e x h q = (ap (λ (z : Refusal). Err (number_of z)) h ∙ q, tt)

-- ---- set-up

-- An accepted setting: a fresh state, which is valid. Any other: refusal 1 and a state of zeros, which is not.
pub setup_accepted : (s : Setting) → setting_ok s ≡ true
    → (set_up_reader s ≡ record { outcome = Ok tt; state = fresh_reader s }) × (set_up_writer s ≡ record { outcome = Ok tt; state = fresh_writer s })
    × (reader_ok (fresh_reader s) ≡ true) × (writer_ok (fresh_writer s) ≡ true)
unfolding set_up_reader set_up_writer
setup_accepted s e = (rw e, rw e, fresh-reader s e, fresh-writer s e)

pub setup_refused : (s : Setting) → setting_ok s ≡ false
    → (set_up_reader s ≡ record { outcome = Err Refusal.Invalid; state = no_reader })
    × (set_up_writer s ≡ record { outcome = Err Refusal.Invalid; state = no_writer })
    × (reader_ok no_reader ≡ false) × (writer_ok no_writer ≡ false)
unfolding set_up_reader set_up_writer
setup_refused s e = (rw e, rw e, no-reader, no-writer)

-- ---- write

-- What an accepted write is handed.
pub record Accepted (w : Writer) (l : ℕ) (b i o area : List ℕ) : Type 0 where
  pub good : GoodWriter w
  pub room : w.setting.length ≤ length area
  pub numbered : l < w.setting.numbered
  pub batch : batch_ok (lane w.setting l).kind (lane w.setting l).longest b ≡ true
  pub insert : length i ≡ w.setting.insert
  pub ocf : length o ≡ ocf_octets (channel_of w.setting l)
  pub below : number w l < frames (zone w.setting (channel_of w.setting l)) b

module _ (w : Writer) (l : ℕ) (batch insert ocf area : List ℕ) where
  pub none-refused : given (write_refusals w l batch insert ocf area) ≡ 0 → Accepted w l batch insert ocf area
  unfolding write_refusals
  none-refused e =
      let r₁ = given-zero _ _ e in
      let r₂ = given-zero _ _ r₁.1 in
      let r₁₃ = given-zero _ _ r₂.1 in
      let r₁₄ = given-zero _ _ r₁₃.1 in
      let r₁₅ = given-zero _ _ r₁₄.1 in
      let r₁₆ = given-zero _ _ r₁₅.1 in
      let o = or_parts _ _ r₁₅.0 in
      record {
        good = good_writer w (not-false _ r₁.0);
        room = ltb-false _ _ r₂.0;
        numbered = leb-false _ _ r₁₃.0;
        batch = not-false _ r₁₄.0;
        insert = eqb-true _ _ (not-false _ o.0);
        ocf = eqb-true _ _ (not-false _ o.1);
        below = leb-false _ _ r₁₆.0;
      }

  -- What a write answers is what its rows do.
  pub write-answered : (write w l batch insert ocf area).sender.outcome ≡ answered (write_refusals w l batch insert ocf area)
  unfolding write
  write-answered = go (answered (write_refusals w l batch insert ocf area))
    where
      go : (r : Result Unit Refusal) → (written w l batch insert ocf area r).sender.outcome ≡ r
      go (Ok x) = unfold written in refl
      go (Err e) = unfold written in refl

  pub accepted : (write w l batch insert ocf area).sender.outcome ≡ Ok tt → given (write_refusals w l batch insert ocf area) ≡ 0
  unfolding refusal_of
  accepted e = sym (answered-given (write_refusals w l batch insert ocf area)) ∙ ap refusal_of (sym write-answered ∙ e)

  -- A refusal changes no octet and no state.
  pub write-refused : (n : Refusal) → (write w l batch insert ocf area).sender.outcome ≡ Err n
      → write w l batch insert ocf area ≡ record { sender = record { outcome = Err n; state = w }; area = area }
  unfolding write written
  write-refused n e = ap (written w l batch insert ocf area) (sym write-answered ∙ e)

  -- A valid state stays valid.
  pub write-valid : writer_ok w ≡ true → writer_ok (write w l batch insert ocf area).sender.state ≡ true
  unfolding write refusal_of
  write-valid ok = go (answered (write_refusals w l batch insert ocf area)) refl
    where
      go : (r : Result Unit Refusal) → answered (write_refusals w l batch insert ocf area) ≡ r
          → writer_ok (written w l batch insert ocf area r).sender.state ≡ true
      go (Ok x) e =
          unfold written in
          let a : Accepted w l batch insert ocf area = none-refused (sym (answered-given _) ∙ ap refusal_of e) in
          let b = good_batch _ _ batch (a.good.setting.lanes l a.numbered).kind.most a.batch in
          let c = good_channel_of a.good.setting l a.numbered in
          writer-ok _ (good_after w a.good l batch a.below (le_trans (frames-few _ batch c.room b.some) b.most))
      go (Err n) e = unfold written in ok

-- ---- read

-- What is known of the verdict of a read: where none of refusals 1 and 2 applies, state and areas are in order.
pub record Ordered (r : Reader) (f h u c : List ℕ) (v : Verdict) : Type 0 where
  pub good : GoodReader r
  pub areas : areas_short h u c ≡ false
  pub judged : Judged r.setting f v

abbrev pub Ruled : Reader → List ℕ → List ℕ → List ℕ → List ℕ → Verdict → Type 0
Ruled r f h u c (Verdict.Refused n) = Unit {0}
Ruled r f h u c Verdict.Idle = Ordered r f h u c Verdict.Idle
Ruled r f h u c (Verdict.Counted k) = Ordered r f h u c (Verdict.Counted k)
Ruled r f h u c (Verdict.Read l) = Ordered r f h u c (Verdict.Read l)
Ruled r f h u c (Verdict.Repeat k) = Ordered r f h u c (Verdict.Repeat k)

-- What would be Counted or Read, on channel c.
abbrev pub TakenOn : Setting → Verdict → ℕ → Type 0
TakenOn s (Verdict.Refused n) c = ⊥
TakenOn s Verdict.Idle c = ⊥
TakenOn s (Verdict.Counted k) c = k ≡ c
TakenOn s (Verdict.Read l) c = (lane s l).channel ≡ c
TakenOn s (Verdict.Repeat k) c = ⊥

module _ (r : Reader) (f : List ℕ) where
  abbrev pub repeats_on : ℕ → Bool
  repeats_on c = repeats_at r c (count_in (channel r.setting c) f)

  -- It has not the last count taken there.
  abbrev pub New : Verdict → Type 0
  New v = (c : ℕ) → TakenOn r.setting v c → repeats_on c ≡ false

  -- What is shown of a frame that is no repeat, and of a repeat on its channel, is shown of what it is.
  pub again-cases : (P : Verdict → Type 0) (v : Verdict) → (New v → P v)
      → ((c : ℕ) → TakenOn r.setting v c → repeats_on c ≡ true → P (Verdict.Repeat c)) → P (again r f v)
  unfolding again
  again-cases P (Verdict.Refused n) a b = a (λ c t. absurd t)
  again-cases P Verdict.Idle a b = a (λ c t. absurd t)
  again-cases P (Verdict.Counted k) a b = go (repeats_on k) refl
    where
      go : (t : Bool) → repeats_on k ≡ t → P (cond t (Verdict.Repeat k) (Verdict.Counted k))
      go true e = b k refl e
      go false e = a (λ c q. rw (← q) e)
  again-cases P (Verdict.Read l) a b = go (repeats_on (lane r.setting l).channel) refl
    where
      go : (t : Bool) → repeats_on (lane r.setting l).channel ≡ t → P (cond t (Verdict.Repeat (lane r.setting l).channel) (Verdict.Read l))
      go true e = b _ refl e
      go false e = a (λ c q. rw (← q) e)
  again-cases P (Verdict.Repeat k) a b = a (λ c t. absurd t)

  pub again-taken : (v : Verdict) (c : ℕ) → TakenOn r.setting v c → repeats_on c ≡ true → again r f v ≡ Verdict.Repeat c
  unfolding again
  again-taken (Verdict.Refused n) c t e = absurd t
  again-taken Verdict.Idle c t e = absurd t
  again-taken (Verdict.Counted k) c t e = rw (t, e)
  again-taken (Verdict.Read l) c t e = rw (t, e)
  again-taken (Verdict.Repeat k) c t e = absurd t

  pub again-new : (v : Verdict) → New (again r f v)
  again-new v = again-cases New v (λ n. n) (λ c t e d q. absurd q)

  -- What the checks say of a repeat holds of it.
  pub again-judged : GoodReader r → (v : Verdict) → Judged r.setting f v → Judged r.setting f (again r f v)
  again-judged g v j = again-cases (Judged r.setting f) v (λ n. j) (λ c t e. on v j c t)
    where
      on : (v : Verdict) → Judged r.setting f v → (c : ℕ) → TakenOn r.setting v c → Judged r.setting f (Verdict.Repeat c)
      on (Verdict.Refused n) j c t = absurd t
      on Verdict.Idle j c t = absurd t
      on (Verdict.Counted k) j c t = rw (← t) j
      on (Verdict.Read l) j c t = rw (← t) ((g.setting.lanes l j.numbered).channel, j.whole)
      on (Verdict.Repeat k) j c t = absurd t

module _ (r : Reader) (f h u c : List ℕ) where
  ruled : (v : Verdict) → Ordered r f h u c v → Ruled r f h u c v
  ruled (Verdict.Refused n) o = tt
  ruled Verdict.Idle o = o
  ruled (Verdict.Counted k) o = o
  ruled (Verdict.Read l) o = o
  ruled (Verdict.Repeat k) o = o

  -- The table's first two rows come before the frame's own.
  pub verdict-cond :
      verdict r f h u c ≡ cond (not (reader_ok r)) (Verdict.Refused 1) (cond (areas_short h u c) (Verdict.Refused 2) (again r f (judge r.setting f)))
  unfolding verdict read_refusals given judged judge again
  verdict-cond = go (reader_ok r) (areas_short h u c)
    where
      go : (a b : Bool) → again r f (judged r.setting f (cond (not a) 1 (cond b 2 (given (refusals r.setting f)))))
          ≡ cond (not a) (Verdict.Refused 1) (cond b (Verdict.Refused 2) (again r f (judge r.setting f)))
      go true true = refl
      go true false = refl
      go false b = refl

  pub verdict-facts : Ruled r f h u c (verdict r f h u c)
  verdict-facts = rw verdict-cond (go (reader_ok r) refl (areas_short h u c) refl)
    where
      go : (a : Bool) → reader_ok r ≡ a → (b : Bool) → areas_short h u c ≡ b
          → Ruled r f h u c (cond (not a) (Verdict.Refused 1) (cond b (Verdict.Refused 2) (again r f (judge r.setting f))))
      go true e true q = tt
      go true e false q =
          let g : GoodReader r = good_reader r e in
          ruled (again r f (judge r.setting f))
          (record { good = g; areas = q; judged = again-judged r f g (judge r.setting f) (judge-facts r.setting f) })
      go false e b q = tt

  -- A refusal changes no octet and no state, and all its counts are 0.
  pub read-refused : (n : ℕ) → (read r f h u c).taken.answer.class ≡ Class.Refused n
      → read r f h u c ≡ record { taken = record { answer = bare (Class.Refused n); state = r }; held_area = h; unit_area = u; record_area = c }
  unfolding read
  read-refused n e = go (verdict r f h u c) e
    where
      go : (v : Verdict) → (on_verdict v r f h u c).taken.answer.class ≡ Class.Refused n
          → on_verdict v r f h u c ≡ record { taken = record { answer = bare (Class.Refused n); state = r }; held_area = h; unit_area = u; record_area = c }
      go (Verdict.Refused m) q =
          unfold on_verdict in ap (λ (k : Class). record { taken = record { answer = bare k; state = r }; held_area = h; unit_area = u; record_area = c }) q
      go Verdict.Idle q = unfold on_verdict in let z : ◌≡◌ {A = ℕ} 0 1 = cc in absurd (omega arith)
      go (Verdict.Counted k) q = unfold on_verdict in let z : ◌≡◌ {A = ℕ} 0 1 = cc in absurd (omega arith)
      go (Verdict.Read l) q = unfold on_verdict read_on laid_out in let z : ◌≡◌ {A = ℕ} 0 1 = cc in absurd (omega arith)
      go (Verdict.Repeat k) q = unfold on_verdict in let z : ◌≡◌ {A = ℕ} 0 1 = cc in absurd (omega arith)

-- ---- what a lane that reads makes

module _ (r : Reader) (f h : List ℕ) (l : ℕ) (g : GoodReader r) (lh : l < r.setting.numbered) (k : ℕ) where
  abbrev after : Gap
  after = gap r (lane r.setting l).channel k

  good-gapped : GoodReader after.state
  good-gapped = good_gap r g (lane r.setting l).channel k

  same-setting : after.state.setting ≡ r.setting
  same-setting = gap-setting r (lane r.setting l).channel k

  still-numbered : l < after.state.setting.numbered
  still-numbered = rw same-setting lh

  lane-kind : GoodKind (lane after.state.setting l).kind (lane after.state.setting l).longest (lane after.state.setting l).upid
  lane-kind = (good-gapped.setting.lanes l still-numbered).kind

  -- It holds fewer octets than its longest unit.
  pub made-below : (c : Channel) → length (made_by after l c f h).held.octets < (lane after.state.setting l).longest
  unfolding made_by
  made-below c = lane_below _ _ _ _ _ _ lane-kind.enough

  -- Its units are few, and have few octets.
  pub record Fits (m : Made) : Type 0 where
    pub octets : length (joined (octets_of m.units)) ≤ 12276
    pub units : length m.units ≤ 2043

  few-held : length (take (held_by after.state l) (part l h)) ≤ 8191
  few-held =
      let a = length-take (held_by after.state l) (part l h) in
      let b = (good-gapped.slots l still-numbered).below in
      omega (arith, a, b, lane-kind.most)

  -- A unit, handed out or held, has an octet in each frame that carries it.
  module _ (full : length h ≡ held_size) where
    pub held-long : length (take (held_by after.state l) (part l h)) ≡ held_by after.state l
    held-long =
        let a = length-take part_size (drop (part_size * l) h) in
        let b = length-drop (part_size * l) h in
        let x = good-gapped.slots l still-numbered in
        length-take-le (held_by after.state l) (part l h)
        (omega (arith, a, b, x.below, lane-kind.most, good-gapped.setting.numbered, still-numbered))

    held-sound : Sound (holding after.state l h)
    held-sound =
        let x = good-gapped.slots l still-numbered in
        record { within = rw held-long x.within; some = λ k. x.some (rw held-long at k) }

    pub made-sound : (c : Channel) → MadeSound (made_by after l c f h)
    unfolding made_by
    made-sound c = lane-sound _ _ _ _ _ _ held-sound

    -- So what it keeps is as it should be.
    pub kept-good : (c : Channel) → GoodSlot (lane after.state.setting l).longest (keeps (made_by after l c f h))
    kept-good c = record { below = made-below c; within = (made-sound c).held.within; some = (made-sound c).held.some }

  module _ (whole : length f ≡ r.setting.length) where
    small-zone : (c : Channel) → 1 ≤ c.octets → length (zone_in after.state.setting c f) ≤ 4085
    unfolding zone_in
    small-zone c one =
        let a = length-take (zone_for after.state.setting c (length f)) (drop (zone_at after.state.setting c) f) in
        let b = ap (λ (s : Setting). s.length) same-setting in
        omega (arith, a, b, good-gapped.setting.high)

    pub made-fits : (c : Channel) → 1 ≤ c.octets → Fits (made_by after l c f h)
    unfolding made_by total
    made-fits c one =
        let kind = (lane after.state.setting l).kind in
        let longest = (lane after.state.setting l).longest in
        let held = holding after.state l h in
        let place = points_to (pointer_in after.state.setting c f) in
        let zone = zone_in after.state.setting c f in
        let t = lane-total kind longest (rule_in after.state.setting c f) held place zone in
        let n = lane-few kind longest (rule_in after.state.setting c f) held place zone in
        let z = small-zone c one in
        record { octets = omega (arith, t, few-held, z); units = omega (arith, n, z) }

-- ---- areas that are not too short

pub areas-long : (h u c : List ℕ) → areas_short h u c ≡ false → (length h ≡ held_size) × (units_size ≤ length u) × (records_size ≤ length c)
unfolding areas_short
areas-long h u c e =
    let a = or_parts _ _ e in
    let b = or_parts _ _ a.0 in
    (eqb-true _ _ (not-false _ b.0), ltb-false _ _ b.1, ltb-false _ _ a.1)

-- ---- a valid state stays valid, and what is handed out fits, over every read

pub read_valid : (r : Reader) (f h u c : List ℕ) → reader_ok r ≡ true → reader_ok (read r f h u c).taken.state ≡ true
unfolding read
read_valid r f h u c ok = go (verdict r f h u c) (verdict-facts r f h u c)
  where
    go : (v : Verdict) → Ruled r f h u c v → reader_ok (on_verdict v r f h u c).taken.state ≡ true
    go (Verdict.Refused n) o = unfold on_verdict in ok
    go Verdict.Idle o = unfold on_verdict in ok
    go (Verdict.Counted k) o = unfold on_verdict in reader-ok _ (good_gap r o.good k (count_in (channel r.setting k) f))
    go (Verdict.Read l) o =
        unfold on_verdict read_on laid_out in
        let k : ℕ = count_in (channel_of r.setting l) f in
        reader-ok _ (good-slot _ (good_gap r o.good (lane r.setting l).channel k) l _
        (kept-good r f h l o.good o.judged.numbered k (areas-long h u c o.areas).0 (channel_of r.setting l)))
    go (Verdict.Repeat k) o = unfold on_verdict in ok

-- A read leaves the setting, and the held area's length.
pub read_setting : (r : Reader) (f h u c : List ℕ) → (read r f h u c).taken.state.setting ≡ r.setting
unfolding read
read_setting r f h u c = go (verdict r f h u c)
  where
    go : (v : Verdict) → (on_verdict v r f h u c).taken.state.setting ≡ r.setting
    go (Verdict.Refused n) = unfold on_verdict in refl
    go Verdict.Idle = unfold on_verdict in refl
    go (Verdict.Counted k) = unfold on_verdict in gap-setting r k _
    go (Verdict.Read l) = unfold on_verdict read_on laid_out in gap-setting r _ _
    go (Verdict.Repeat k) = unfold on_verdict in refl

pub read_held : (r : Reader) (f h u c : List ℕ) → length h ≡ held_size → length (read r f h u c).held_area ≡ held_size
unfolding read
read_held r f h u c full = go (verdict r f h u c) (verdict-facts r f h u c)
  where
    go : (v : Verdict) → Ruled r f h u c v → length (on_verdict v r f h u c).held_area ≡ held_size
    go (Verdict.Refused n) o = unfold on_verdict in full
    go Verdict.Idle o = unfold on_verdict in full
    go (Verdict.Counted k) o = unfold on_verdict in full
    go (Verdict.Read l) o =
        unfold on_verdict read_on laid_out in
        let k : ℕ = count_in (channel_of r.setting l) f in
        let few = made-below r f h l o.good o.judged.numbered k (channel_of r.setting l) in
        let most = (o.good.setting.lanes l o.judged.numbered).kind.most in
        let same = ap (λ (y : Setting). (lane y l).longest) (gap-setting r (lane r.setting l).channel k) in
        length-laid h (part_size * l) _ (omega (arith, few, most, same, o.judged.numbered, o.good.setting.numbered)) ∙ full
    go (Verdict.Repeat k) o = unfold on_verdict in full

-- Units and records of any frame fit 12,288 and 49,152 octets: a lane holds 8,191 octets at most and a zone has 4,085, in which one packet ends and 2,042 of
-- two octets stand.
pub record Small (a : Answer) : Type 0 where
  pub octets : a.octets ≤ 12276
  pub units : a.units ≤ 2043
  pub room : a.octets ≤ units_size
  pub records : record_size * a.units ≤ records_size

pub small : (a : Answer) → a.octets ≤ 12276 → a.units ≤ 2043 → Small a
small a o n = record { octets = o; units = n; room = omega arith; records = omega arith }

pub read_fits : (r : Reader) (f h u c : List ℕ) → Small (read r f h u c).taken.answer
unfolding read
read_fits r f h u c = go (verdict r f h u c) (verdict-facts r f h u c)
  where
    go : (v : Verdict) → Ruled r f h u c v → Small (on_verdict v r f h u c).taken.answer
    go (Verdict.Refused n) o = unfold on_verdict in small _ (omega arith) (omega arith)
    go Verdict.Idle o = unfold on_verdict in small _ (omega arith) (omega arith)
    go (Verdict.Counted k) o = unfold on_verdict in small _ (omega arith) (omega arith)
    go (Verdict.Read l) o =
        unfold on_verdict read_on laid_out in
        let m = made-fits r f h l o.good o.judged.numbered (count_in (channel_of r.setting l) f) o.judged.whole (channel_of r.setting l)
        (good_channel_of o.good.setting l o.judged.numbered).one in
        small _ m.octets m.units
    go (Verdict.Repeat k) o = unfold on_verdict in small _ (omega arith) (omega arith)
