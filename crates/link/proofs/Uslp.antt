-- The first pair of ends: a writer and a reader of USLP frames of one setting. What a call leaves is the write rule's, what a read leaves is the
-- read rule's, and frame k of a batch starts with its octet k * Z.
use mathlib.Core.Path.{◌≡◌, refl, sym, ap, ◌∙◌, subst}
use mathlib.Core.Logic.{◌⊎◌, inl, inr}
use Prim.Native.Nat.{ℕ, ◌+◌, ◌-◌, ◌*◌, ◌^◌, ◌≤◌, ◌<◌}
use native.Mathlib.Nat.{zero-mul, zero-lt-suc, lt_of_lt_of_le, pow-le-pow_right}
use native.Mathlib.Omega.{arith}
use mathlib.Core.Bool.{Bool, true, false, cond}
use mathlib.Core.List.{List, [], map}
use lib.ListN.{length, get_or, set, length-set}
use lib.Seq.{get_or-set_same, get_or-set_other}
use borrow.Author.Tests.{ne_eqb, eq-eqb}
use Rattle.rules.specs.declared.Kind.{Kind}
use Rattle.rules.specs.declared.Setting.{Setting}
use Rattle.rules.specs.declared.Expect.{Expect}
use Rattle.rules.specs.declared.Expects.{Expects}
use Rattle.rules.specs.declared.Slot.{Slot}
use Rattle.rules.specs.declared.Reader.{Reader}
use Rattle.rules.specs.declared.Writer.{Writer}
use Rattle.std.specs.Prelude.{Ok}
use Rattle.rules.specs.Areas.{laid, held_size, part_size}
use Rattle.rules.specs.Settings.{channel, lane, channel_of, expect_on, expect, expecting, count, number, zone, reader_ok}
use Rattle.rules.specs.Writing.{units_of, count_after, writer_after}
use Rattle.rules.specs.Reading.{missing, expected, repeats, DataUnit, Made}
use Rattle.rules.specs.Calls.{written, write, Got, read}
use Rattle.rules.specs.Valid.{Good}
use Rattle.rules.proofs.States
use Rattle.rules.proofs.Counts.{counts_many, few_no_repeat, taken-repeats}
use Rattle.rules.proofs.Valid.{good_channel_of, good_reader}
use Rattle.rules.proofs.Calls.{Accepted, none-refused, write-answered, accepted}
use Rattle.rules.proofs.Written.{FrameBack, write_back, zone-small}
use Rattle.link.specs.Link.{Call, called, place_of, start_of, frame_by, Lent, place_in, Arrival, handed}
use Rattle.link.specs.Demand.{enough, inert}
use Rattle.link.proofs.Spans.{yields, yield, Delivers, Follows}
use Rattle.link.proofs.Batches.{units, lane-reads, follows}
use Rattle.link.proofs.Invariant.{held_after}
use Rattle.link.proofs.Received.{stray, reader, holds, left, gapped, length-left, holds-other, holds-gap, stored-length, stored_here, stored_other, makes, reader_after, Taken, read_again, read-takes, read-ready}
use Rattle.link.proofs.Ends.{Ends, whole, filed, Sends, Unmoved, Heard, Copied, Bounded, Facts}

-- ---- the pair

pub record Hearer : Type 0 where
  pub reader : Reader
  pub area : List ℕ

-- What a read of what arrives gives, and what it leaves.
abbrev pub read_by : Hearer → Arrival → Got
read_by r a = read r.reader a.octets r.area a.lent.units a.lent.records

abbrev pub left_by : Got → Hearer
left_by o = record { reader = o.taken.state; area = o.held_area }

module _ (s : Setting) where
  -- Eight slots each, the held area's size, and a valid reader.
  pub record SoundWriter (w : Writer) : Type 0 where
    pub setting : w.setting ≡ s
    pub counts : length w.counts ≡ 8
    pub next : length w.next ≡ 8

  pub record SoundHearer (r : Hearer) : Type 0 where
    pub setting : r.reader.setting ≡ s
    pub counts : length r.reader.expects.counts ≡ 8
    pub known : length r.reader.expects.known ≡ 8
    pub slots : length r.reader.slots ≡ 8
    pub area : length r.area ≡ held_size
    pub valid : reader_ok r.reader ≡ true

  abbrev pub uslp : Ends
  uslp =
      record {
        Writer = Writer;
        Call = Call;
        Hearer = Hearer;
        place = place_in s;
        frame = frame_by s;
        batch = λ (x : Call). x.batch;
        next = λ (w : Writer) (x : Call). (called w x).sender.state;
        heard = λ (r : Hearer) (a : Arrival). left_by (read_by r a);
        hands = λ (r : Hearer) (a : Arrival) (l : ℕ). handed l (read_by r a);
        lanes = s.numbered;
        channel = place_of s;
        octets = λ (l : ℕ). (channel_of s l).octets;
        bound = λ (l : ℕ). 256 ^ (channel_of s l).octets - 1;
        units = λ (l : ℕ) (b : List ℕ). units_of (lane s l).kind b;
        start = λ (w : Writer) (l : ℕ) (b : List ℕ). start_of s w l;
        count = λ (w : Writer) (l : ℕ). count w (place_of s l);
        expect = λ (r : Hearer) (l : ℕ). expect r.reader (place_of s l);
        held = λ (r : Hearer) (l : ℕ). holds r.reader.slots r.area l;
        Goes = λ (w : Writer) (last : ℕ → List ℕ) (x : Call).
            ((called w x).sender.outcome ≡ Ok tt) × ((number w x.lane ≡ 0) ⊎ (x.batch ≡ last x.lane));
        Enough = λ (a : Lent). enough a ≡ true;
        Inert = λ (a : Arrival). inert s a.octets ≡ true;
        SoundWriter = SoundWriter;
        SoundHearer = SoundHearer;
      }

-- A lane's channel has one of the eight slots.
pub channel_8 : (s : Setting) → Good s → (l : ℕ) → l < s.numbered → place_of s l < 8
channel_8 s g l lh = omega (arith, (g.lanes l lh).channel, g.listed)

-- ---- an accepted call

module _ (w : Writer) (last : ℕ → List ℕ) (x : Call) (kept : Bool) (go : (uslp w.setting).Goes w last x) where
  abbrev s : Setting
  s = w.setting

  abbrev i : ℕ
  i = x.lane

  abbrev kind : Kind
  kind = (lane s i).kind

  abbrev z : ℕ
  z = zone s (channel_of s i)

  abbrev k : ℕ
  k = number w i

  takes : Accepted w i x.batch x.insert x.ocf x.area
  takes = unfold called in none-refused w i x.batch x.insert x.ocf x.area (accepted w i x.batch x.insert x.ocf x.area go.0)

  pub back : FrameBack s i (count w (place_of s i)) x.batch x.insert x.ocf k (frame_by s w x kept).octets
  unfolding called frame_by
  back = (write_back w i x.batch x.insert x.ocf x.area go.0).0

  leaves : (called w x).sender.state ≡ writer_after w i x.batch
  unfolding called write written
  leaves = rw (sym (write-answered w i x.batch x.insert x.ocf x.area) ∙ go.0)

  g : Good s
  g = takes.good.setting

  some : 0 < z
  some = (good_channel_of g i takes.numbered).room

  lane-8 : i < 8
  lane-8 = omega (arith, takes.numbered, g.numbered)

  module _ (counts-8 : length w.counts ≡ 8) (next-8 : length w.next ≡ 8) where
    count_same : (l : ℕ) → l < s.numbered → place_of s i ≡ place_of s l
        → count (writer_after w i x.batch) (place_of s l) ≡ count_after (channel_of s l).octets (count w (place_of s l))
    unfolding writer_after
    count_same l lh e =
        ap (λ (c : ℕ). get_or (set w.counts c (count_after (channel s c).octets (count w c))) (place_of s l) 0) e
        ∙ get_or-set_same w.counts (place_of s l) _ 0 (omega (arith, counts-8, channel_8 s g l lh))

    next_start : Follows (units_of kind x.batch) (k * z + z) (start_of s (writer_after w i x.batch) i)
    unfolding writer_after
    next_start =
        subst (λ (m : ℕ). Follows (units_of kind x.batch) (k * z + z) (m * z)) (sym (get_or-set_same w.next i _ 0 (omega (arith, next-8, lane-8))))
        (follows kind (lane s i).longest z k some x.batch takes.batch)

    in-turn : (number w i ≡ 0) ⊎ (x.batch ≡ last i) → (k * z ≡ 0) ⊎ (units_of kind x.batch ≡ units_of kind (last i))
    in-turn (inl e) = inl (ap (λ (m : ℕ). m * z) e ∙ zero-mul z)
    in-turn (inr e) = inr (ap (units_of kind) e)

    sends : Sends (uslp s) w last x.batch (frame_by s w x kept) (called w x).sender.state
    sends =
        subst (Sends (uslp s) w last x.batch (frame_by s w x kept)) (sym leaves)
        (unfold writer_after frame_by in
        record {
          sound = record { setting = refl; counts = rw length-set counts-8; next = rw length-set next-8 };
          lane = takes.numbered;
          channel = refl;
          units = refl;
          filled = (units kind (lane s i).longest x.batch takes.batch).filled;
          starts = refl;
          some = omega (arith, some);
          turn = in-turn go.1;
          follows = next_start;
          start-other = λ l n b. ap (λ (m : ℕ). m * zone s (channel_of s l)) (get_or-set_other w.next i l _ 0 (λ e. n (sym e)));
          count-on = count_same;
          count-other = λ l n. get_or-set_other w.counts (place_of s i) (place_of s l) _ 0 (λ e. n (sym e));
        })

  abbrev v : ℕ
  v = count w (place_of s i)

  -- The count fits its octets, and a record's.
  v_below : v < 256 ^ (channel_of s i).octets
  v_below = takes.good.counts (place_of s i) (g.lanes i takes.numbered).channel

  v-8 : v < 256 ^ 8
  v-8 =
      let n : (channel_of s i).octets ≤ 8 = omega (arith, (good_channel_of g i takes.numbered).seven) in
      lt_of_lt_of_le v_below (pow-le-pow_right (zero-lt-suc 255) n)

  -- ---- a copy of the frame arrives at a reader of the same setting

  module _ (es : Expects) (hs : List Slot) (h : List ℕ) (lent : Lent) (r : SoundHearer s (record { reader = reader s es hs; area = h }))
      (fits : enough lent ≡ true) where
    abbrev answer : Got
    answer = read_by (record { reader = reader s es hs; area = h }) (whole (frame_by s w x kept) lent)

    -- Whether it is a repeat; told of any lane of the channel.
    abbrev twice : Bool
    twice = repeats (channel_of s i).octets (expect_on es (place_of s i)) v

    few-new : (l : ℕ) → place_of s i ≡ place_of s l
        → missing (channel_of s l).octets (expect_on es (place_of s l)) (count w (place_of s l)) < 256 ^ (channel_of s l).octets - 1 → twice ≡ false
    few-new l e h =
        few_no_repeat (channel_of s i).octets (expect_on es (place_of s i)) v
        ((good_reader (reader s es hs) r.valid).counts (place_of s i) (g.lanes i takes.numbered).channel) v_below
        (subst (λ (c : ℕ). missing (channel s c).octets (expect_on es c) (count w c) < 256 ^ (channel s c).octets - 1) (sym e) h)

    spent-twice : (l : ℕ) → place_of s i ≡ place_of s l → expect_on es (place_of s l) ≡ expected (channel_of s l).octets (count w (place_of s l)) → twice ≡ true
    spent-twice l e h =
        ap (λ (y : Expect). repeats (channel_of s i).octets y v)
        (subst (λ (c : ℕ). expect_on es c ≡ expected (channel s c).octets (count w c)) (sym e) h)
        ∙ taken-repeats (channel_of s i).octets v v_below

    unmoved : twice ≡ true → Unmoved (uslp s) (record { reader = reader s es hs; area = h }) (whole (frame_by s w x kept) lent)
    unmoved e =
        let u = read_again s es hs h lent i v x.batch x.insert x.ocf k (frame_by s w x kept).octets back r.valid takes.numbered r.area
        fits v-8 e in
        record { state = λ t. record { reader = u.state t; area = u.area t }; none = u.none }

    -- It is none.
    module _ (new : twice ≡ false) where
      abbrev gap : List Slot
      gap = gapped s es hs i v

      abbrev made : Made
      made = makes s es hs h i v x.batch k

      took : Taken s es hs h i v made answer
      took = read-takes s es hs h lent i v x.batch x.insert x.ocf k (frame_by s w x kept).octets back r.valid takes.numbered r.area fits
          v-8 new

      gap-8 : length gap ≡ 8
      gap-8 = length-left s _ _ hs ∙ r.slots

      abbrev after : Hearer
      after = record { reader = reader_after s es hs i v made; area = laid h (part_size * i) made.held.octets }

      sound : SoundHearer s after
      sound =
          record {
            setting = refl;
            counts = rw length-set r.counts;
            known = rw length-set r.known;
            slots = rw length-set gap-8;
            area = stored-length hs h made i lane-8 r.slots r.area took.small;
            valid =
                read-ready s es hs h lent i v x.batch x.insert x.ocf k (frame_by s w x kept).octets back r.valid takes.numbered
                r.area fits v-8 new;
          }

      -- What a lane of the channel expects and holds once the frame's count is taken.
      expect-same : (l : ℕ) → l < s.numbered → place_of s i ≡ place_of s l
          → expect after.reader (place_of s l) ≡ expected (channel_of s l).octets (count w (place_of s l))
      expect-same l lh e =
          ap (λ (c : ℕ). expect_on (expecting es c (expected (channel s c).octets (count w c))) (place_of s l)) e
          ∙ States.expect-same es (place_of s l) _ (omega (arith, r.counts, channel_8 s g l lh)) (omega (arith, r.known, channel_8 s g l lh))

      abbrev holding : ℕ → DataUnit
      holding l = held_after (channel_of s l).octets (expect_on es (place_of s l)) (count w (place_of s l)) (holds hs h l)

      gap_same : (l : ℕ) → l < s.numbered → place_of s i ≡ place_of s l → holds gap h l ≡ holding l
      unfolding held_after
      gap_same l lh e =
          ap (λ (c : ℕ). holds (left s c (missing (channel s c).octets (expect_on es c) (count w c)) hs) h l) e ∙ holds-gap s g l lh _ hs h

      held-apart : (l : ℕ) → (i ≡ l → ⊥) → holds after.reader.slots after.area l ≡ holds gap h l
      held-apart l n = stored_other gap h made i lane-8 gap-8 r.area took.small l (λ e. n (sym e))

      delivers : Delivers (units_of kind x.batch) (k * z) (k * z + z) (holding i) (yields made.units (holds after.reader.slots after.area i))
      delivers =
          subst (Delivers (units_of kind x.batch) (k * z) (k * z + z) (holding i))
          (ap (yields made.units) (sym (stored_here gap h made i lane-8 gap-8 r.area took.small)))
          (unfold makes in
          subst (λ (y : DataUnit). Delivers (units_of kind x.batch) (k * z) (k * z + z) y (yield made)) (gap_same i takes.numbered refl)
          (lane-reads (lane s i).longest z some (zone-small s g (channel_of s i)) k x.batch kind (holds gap h i)
          (g.lanes i takes.numbered).kind.enough
          takes.batch takes.below))

      heard : Heard (uslp s) w (record { reader = reader s es hs; area = h }) (frame_by s w x kept) (left_by answer) (λ (l : ℕ). handed l answer)
      heard =
          subst (λ (y : Hearer). Heard (uslp s) w (record { reader = reader s es hs; area = h }) (frame_by s w x kept) y (λ (l : ℕ). handed l answer))
          (λ t. record { reader = (sym took.state) t; area = (sym took.area) t })
          (unfold frame_by in
          record {
            sound = sound;
            expect-on = expect-same;
            expect-other = λ l n. States.expect-other es (place_of s i) _ (place_of s l) (λ e. n (sym e));
            held-beside = λ l lh e n. held-apart l n ∙ gap_same l lh e;
            held-other = λ l lh e n. held-apart l n ∙ holds-other s g l lh (place_of s i) _ hs h (λ q. e (sym q));
            none = λ l n. took.units l ∙ ap (λ (t : Bool). cond t (map (filed v) made.units) []) (ne_eqb i l n);
            made = made.units;
            files =
                took.units i ∙ ap (λ (t : Bool). cond t (map (filed v) made.units) []) (eq-eqb i i refl)
                ∙ ap (λ (c : ℕ). map (filed c) made.units) (sym back.count);
            delivers = delivers;
          })

    copied : Copied (uslp s) w (frame_by s w x kept) (record { reader = reader s es hs; area = h }) lent
    unfolding frame_by
    copied =
        record {
          new = λ l lh e q. heard (few-new l e q);
          again = λ l lh e q. unmoved (spent-twice l e q);
          either = by twice refl;
        }
      where
        by : (t : Bool) → twice ≡ t
            → Heard (uslp s) w (record { reader = reader s es hs; area = h }) (frame_by s w x kept) (left_by answer) (λ (l : ℕ). handed l answer)
            ⊎ Unmoved (uslp s) (record { reader = reader s es hs; area = h }) (whole (frame_by s w x kept) lent)
        by true q = inr (unmoved q)
        by false q = inl (heard q)

-- ---- the facts

-- Two ends that name one setting have one setting.
copied_of : (w : Writer) (last : ℕ → List ℕ) (x : Call) (kept : Bool) (lent : Lent) (r : Hearer) → (uslp w.setting).Goes w last x → enough lent ≡ true
    → SoundHearer w.setting r → Copied (uslp w.setting) w (frame_by w.setting w x kept) r lent
copied_of w last x kept lent r go fits m =
    subst (λ (y : Hearer). SoundHearer w.setting y → Copied (uslp w.setting) w (frame_by w.setting w x kept) y lent)
    (λ t. record { reader = reader ((sym m.setting) t) r.reader.expects r.reader.slots; area = r.area })
    (λ m. copied w last x kept go r.reader.expects r.reader.slots r.area lent m fits) m

-- Of an accepted setting.
module _ (s : Setting) (good : Good s) where
  bounded : Bounded (uslp s)
  bounded l lh =
      let p = counts_many (channel_of s l).octets (good_channel_of good l lh).one in
      (omega (arith, p), omega (arith, p))

  pub facts : Facts (uslp s)
  unfolding frame_by
  facts =
      record {
        bounded = bounded;
        kept = λ w x k. refl;
        place = λ w x k. refl;
        sends = λ w last x kept k go.
            subst (λ (t : Setting). Sends (uslp t) w last x.batch (frame_by t w x kept) (called w x).sender.state) k.setting
            (sends w last x kept go k.counts k.next);
        unmoved = λ r a k q.
            let u = stray r.reader a.octets r.area a.lent (subst (λ (t : Setting). inert t a.octets ≡ true) (sym k.setting) q) in
            record { state = λ t. record { reader = u.state t; area = u.area t }; none = u.none };
        copied = λ w r last x kept lent k m go fits.
            subst (λ (t : Setting). SoundHearer t r → Copied (uslp t) w (frame_by t w x kept) r lent) k.setting (copied_of w last x kept lent r go fits) m;
      }
