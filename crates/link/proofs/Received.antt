-- What one read does: inert octets, and a frame whose count was the last one taken, leave everything; any other written frame takes its count, makes its
-- lane step, and leaves the other lanes' octets where they are.
use mathlib.Core.Path.{◌≡◌, refl, sym, ap, ap₂, ◌∙◌, subst}
use Prim.Native.Nat.{ℕ, zero, suc, ◌+◌, ◌*◌, ◌^◌, ◌≤◌, ◌<◌}
use native.Mathlib.Nat.{not-suc-le-zero, le_of_suc-le-suc, suc-ne-zero}
use native.Mathlib.Omega.{arith}
use mathlib.Core.Bool.{Bool, true, false, cond, not, false≢true}
use mathlib.Core.List.{List, [], ◌∷◌, map}
use lib.ListN.{length, get_or, take, drop, set, length-take, get_or-eq_default}
use lib.Seq.{take-take, get_or-take, get_or-set_same, get_or-set_other}
use borrow.Author.Tests.{leb-true, le-ltb, eq-eqb, ne_eqb}
use Rattle.rules.specs.declared.Lane.{Lane}
use Rattle.rules.specs.declared.Setting.{Setting}
use Rattle.rules.specs.declared.Expects.{Expects}
use Rattle.rules.specs.declared.Slot.{Slot}
use Rattle.rules.specs.declared.Reader.{Reader}
use Rattle.rules.specs.declared.Gap.{Gap}
use Rattle.rules.specs.declared.Verdict.{Verdict}
use Rattle.rules.specs.Tests.{◌≤?◌, ◌=?◌, ◌≠?◌, given}
use Rattle.rules.specs.Areas.{laid, joined, part, held_size, part_size, records_size, units_size}
use Rattle.rules.specs.Settings.{no_lane, no_slot, lane, expect_on, expecting, channel_of, zone, reader_ok}
use Rattle.rules.specs.Frames.{rule_in, pointer_in, zone_in, points_to}
use Rattle.rules.specs.Writing.{zone_of, rule_of, pointer_of}
use Rattle.rules.specs.Reading.{missing, expected, repeats, emptied, lanes_of, gap_by, gap, DataUnit, no_unit, held_in, octets_of, Made, keeps, lane_step}
use Rattle.rules.specs.Refusals.{refusals, judged, judge}
use Rattle.rules.specs.Calls.{Got, areas_short, laid_out, made_by, read_on, repeats_at, again, on_verdict, verdict, read}
use Rattle.rules.proofs.Tests.{split, and_left, and_right}
use Rattle.rules.proofs.Areas.{length-laid, laid-at, laid-before, laid-after}
use Rattle.rules.specs.Valid.{Good, GoodReader, least}
use Rattle.rules.proofs.Valid.{good_reader}
use Rattle.rules.proofs.Lanes.{lane_below, MadeSound}
use Rattle.rules.proofs.Calls.{verdict-cond, made-sound, read_valid, read_fits}
use Rattle.rules.proofs.Written.{FrameBack}
use Rattle.link.specs.Link.{Lent, place_of, units_by, handed}
use Rattle.link.specs.Demand.{enough, inert}
use Rattle.link.proofs.Spans.{either}
use Rattle.link.proofs.Ends.{filed}
use Rattle.link.proofs.Records.{handed-laid}

-- ---- octets that change nothing

-- What is as it was.
pub record Untouched (r : Reader) (h : List ℕ) (o : Got) : Type 0 where
  pub state : o.taken.state ≡ r
  pub area : o.held_area ≡ h
  pub none : (l : ℕ) → handed l o ≡ []

module _ (r : Reader) (f h : List ℕ) (a : Lent) where
  refused : (n : ℕ) → Untouched r h (on_verdict (Verdict.Refused n) r f h a.units a.records)
  unfolding on_verdict handed units_by
  refused n = record { state = refl; area = refl; none = λ l. refl }

  repeated : (c : ℕ) → Untouched r h (on_verdict (Verdict.Repeat c) r f h a.units a.records)
  unfolding on_verdict handed units_by
  repeated c = record { state = refl; area = refl; none = λ l. refl }

  pub stray : inert r.setting f ≡ true → Untouched r h (read r f h a.units a.records)
  unfolding read judge judged inert again
  stray i = rw (verdict-cond r f h a.units a.records) (go (reader_ok r) (areas_short h a.units a.records) (given (refusals r.setting f)) i)
    where
      go : (p q : Bool) (n : ℕ) → (n ≠? 0) ≡ true
          → Untouched r h
          (on_verdict (cond (not p) (Verdict.Refused 1) (cond q (Verdict.Refused 2) (again r f (judged r.setting f n)))) r f h a.units a.records)
      go false q n e = refused 1
      go true true n e = refused 2
      go true false zero e = absurd (false≢true e)
      go true false (suc n) e = refused (suc n)

-- ---- the reader's state by its parts

abbrev pub reader : Setting → Expects → List Slot → Reader
reader s es hs = record { setting = s; expects = es; slots = hs }

-- What lane l holds.
abbrev pub holds : List Slot → List ℕ → ℕ → DataUnit
holds hs h l = held_in (get_or hs l no_slot) (part l h)

-- The slots once m frames of channel c were missed.
unfoldable pub left : Setting → ℕ → ℕ → List Slot → List Slot
left s c m hs = cond (m =? 0) hs (emptied (λ (l : Lane). l.channel =? c) (lanes_of s) hs)

length-emptied : (p : Lane → Bool) (ls : List Lane) (hs : List Slot) → length (emptied p ls hs) ≡ length hs
unfolding emptied
length-emptied p [] hs = refl
length-emptied p (x ∷ ls) [] = refl
length-emptied p (x ∷ ls) (y ∷ hs) = ap suc (length-emptied p ls hs)

pub length-left : (s : Setting) (c m : ℕ) (hs : List Slot) → length (left s c m hs) ≡ length hs
unfolding left
length-left s c m hs = go (m =? 0)
  where
    go : (t : Bool) → length (cond t hs (emptied (λ (l : Lane). l.channel =? c) (lanes_of s) hs)) ≡ length hs
    go true = refl
    go false = length-emptied (λ (l : Lane). l.channel =? c) (lanes_of s) hs

emptied-at : (p : Lane → Bool) (ls : List Lane) (hs : List Slot) (l : ℕ) → l < length ls
    → get_or (emptied p ls hs) l no_slot ≡ cond (p (get_or ls l no_lane)) no_slot (get_or hs l no_slot)
unfolding emptied
emptied-at p [] hs l h = absurd (not-suc-le-zero h)
emptied-at p (x ∷ ls) [] l h = sym (either (p (get_or (x ∷ ls) l no_lane)) no_slot)
emptied-at p (x ∷ ls) (y ∷ hs) zero h = refl
emptied-at p (x ∷ ls) (y ∷ hs) (suc l) h = emptied-at p ls hs l (le_of_suc-le-suc h)

module _ (s : Setting) (g : Good s) (l : ℕ) (lh : l < s.numbered) where
  -- A numbered lane has a slot: one of zeros would have no longest unit.
  slot : l < length s.lanes
  slot = split (length s.lanes) l (λ h. absurd (bad (get_or-eq_default s.lanes no_lane h) (g.lanes l lh).kind.enough)) (λ h. h)
    where
      bad : lane s l ≡ no_lane → least (lane s l).kind ≤ (lane s l).longest → ⊥
      bad e h = omega (arith, subst (λ (x : Lane). least x.kind ≤ x.longest) e h)

  -- Of another channel, a gap drops nothing; of this one, all.
  pub left_at : (c m : ℕ) (hs : List Slot) → get_or (left s c m hs) l no_slot
      ≡ cond (m =? 0) (get_or hs l no_slot) (cond (place_of s l =? c) no_slot (get_or hs l no_slot))
  unfolding left
  left_at c m hs = go (m =? 0)
    where
      n : l < length (lanes_of s)
      n = omega (arith, length-take s.numbered s.lanes, slot)

      go : (t : Bool) → get_or (cond t hs (emptied (λ (x : Lane). x.channel =? c) (lanes_of s) hs)) l no_slot ≡ cond t (get_or hs l no_slot)
          (cond (place_of s l =? c) no_slot (get_or hs l no_slot))
      go true = refl
      go false =
          emptied-at (λ (x : Lane). x.channel =? c) (lanes_of s) hs l n
          ∙ ap (λ (x : Lane). cond (x.channel =? c) no_slot (get_or hs l no_slot)) (get_or-take s.numbered s.lanes l no_lane lh)

  pub holds-other : (c m : ℕ) (hs : List Slot) (h : List ℕ) → (place_of s l ≡ c → ⊥) → holds (left s c m hs) h l ≡ holds hs h l
  holds-other c m hs h e = ap (λ (x : Slot). held_in x (part l h)) (left_at c m hs ∙ go (m =? 0))
    where
      go : (t : Bool) → cond t (get_or hs l no_slot) (cond (place_of s l =? c) no_slot (get_or hs l no_slot)) ≡ get_or hs l no_slot
      go true = refl
      go false = rw (ne_eqb (place_of s l) c e)

  pub holds-gap : (m : ℕ) (hs : List Slot) (h : List ℕ) → holds (left s (place_of s l) m hs) h l ≡ cond (m =? 0) (holds hs h l) no_unit
  holds-gap m hs h = ap (λ (x : Slot). held_in x (part l h)) (left_at (place_of s l) m hs) ∙ go (m =? 0)
    where
      go : (t : Bool) → held_in (cond t (get_or hs l no_slot) (cond (place_of s l =? place_of s l) no_slot (get_or hs l no_slot))) (part l h)
          ≡ cond t (holds hs h l) no_unit
      go true = refl
      go false = rw (eq-eqb (place_of s l) (place_of s l) refl)

-- ---- octets laid into a lane's part of the held area

module _ (hs : List Slot) (h : List ℕ) (m : Made) (i : ℕ) (ih : i < 8) (slots : length hs ≡ 8) (area : length h ≡ held_size)
    (small : length m.held.octets ≤ 8192) where
  abbrev xs : List ℕ
  xs = m.held.octets

  room : part_size * i + length xs ≤ length h
  room = omega arith

  pub stored-length : length (laid h (part_size * i) xs) ≡ 65536
  stored-length = length-laid h (part_size * i) xs room ∙ area

  pub stored_here : holds (set hs i (keeps m)) (laid h (part_size * i) xs) i ≡ m.held
  stored_here =
      ap (λ (x : Slot). held_in x (part i (laid h (part_size * i) xs))) (get_or-set_same hs i (keeps m) no_slot (omega arith))
      ∙ ap (λ (ys : List ℕ). record { octets = ys; span = m.held.span })
      (take-take (length xs) 8192 (drop (part_size * i) (laid h (part_size * i) xs)) small ∙ laid-at h (part_size * i) xs room)

  pub stored_other : (l : ℕ) → (l ≡ i → ⊥) → holds (set hs i (keeps m)) (laid h (part_size * i) xs) l ≡ holds hs h l
  stored_other l e =
      ap₂ held_in (get_or-set_other hs i l (keeps m) no_slot e)
      (split i l
      (λ q. ap (take 8192) (laid-after h (part_size * i) xs room (part_size * l) (omega arith)))
      (λ q. laid-before h (part_size * i) xs room (part_size * l) 8192 (omega arith)))

-- ---- a frame that is read

pub enough-areas : (h : List ℕ) (a : Lent) → length h ≡ held_size → enough a ≡ true → areas_short h a.units a.records ≡ false
unfolding areas_short enough
enough-areas h a e q =
    let u : units_size ≤ length a.units = leb-true _ _ (and_left _ _ q) in
    let c : records_size ≤ length a.records = leb-true _ _ (and_right (units_size ≤? length a.units) _ q) in
    rw (eq-eqb (length h) 65536 e, le-ltb _ _ u, le-ltb _ _ c)

-- The slots once the count v of a frame of lane i is taken.
abbrev pub gapped : Setting → Expects → List Slot → ℕ → ℕ → List Slot
gapped s es hs i v = left s (place_of s i) (missing (channel_of s i).octets (expect_on es (place_of s i)) v) hs

-- What lane i makes of frame k of the batch b.
unfoldable pub makes : Setting → Expects → List Slot → List ℕ → ℕ → ℕ → List ℕ → ℕ → Made
makes s es hs h i v b k =
    lane_step (lane s i).kind (lane s i).longest (rule_of (lane s i).kind k) (holds (gapped s es hs i v) h i)
    (points_to (pointer_of (lane s i).kind (zone s (channel_of s i)) b k)) (zone_of (lane s i).kind (zone s (channel_of s i)) b k)

-- The reader once lane i has made this of a frame with count v.
abbrev pub reader_after : Setting → Expects → List Slot → ℕ → ℕ → Made → Reader
reader_after s es hs i v m =
    reader s (expecting es (place_of s i) (expected (channel_of s i).octets v)) (set (gapped s es hs i v) i (keeps m))

-- What a read of it gives.
pub record Taken (s : Setting) (es : Expects) (hs : List Slot) (h : List ℕ) (i v : ℕ) (m : Made) (o : Got) : Type 0 where
  pub state : o.taken.state ≡ reader_after s es hs i v m
  pub area : o.held_area ≡ laid h (part_size * i) m.held.octets
  pub units : (l : ℕ) → handed l o ≡ cond (i =? l) (map (filed v) m.units) []
  pub small : length m.held.octets ≤ 8192

module _ (s : Setting) (es : Expects) (hs : List Slot) (h : List ℕ) (a : Lent) (i v : ℕ) where
  abbrev c : ℕ
  c = place_of s i

  abbrev n : ℕ
  n = (channel_of s i).octets

  abbrev after : List Slot
  after = gapped s es hs i v

  abbrev made : List ℕ → ℕ → Made
  made b k = makes s es hs h i v b k

  gap-state : (gap (reader s es hs) c v).state ≡ reader s (expecting es c (expected n v)) after
  unfolding gap left
  gap-state = go (missing n (expect_on es c) v)
    where
      go : (m : ℕ) → (gap_by (reader s (expecting es c (expected n v)) hs) c m).state
          ≡ reader s (expecting es c (expected n v)) (cond (m =? 0) hs (emptied (λ (l : Lane). l.channel =? c) (lanes_of s) hs))
      go zero = unfold gap_by in refl
      go (suc m) = unfold gap_by in rw (ne_eqb (suc m) 0 (suc-ne-zero m))

  module _ (b ins oc : List ℕ) (k : ℕ) (f : List ℕ) (back : FrameBack s i v b ins oc k f) (ok : reader_ok (reader s es hs) ≡ true)
      (ih : i < s.numbered) (full : length h ≡ held_size) (lent : enough a ≡ true) (fits_8 : v < 256 ^ 8) where
    abbrev g : Gap
    g = gap (reader s es hs) c v

    -- A repeat, or read by the lane.
    verdict-is : verdict (reader s es hs) f h a.units a.records ≡ cond (repeats n (expect_on es c) v) (Verdict.Repeat c) (Verdict.Read i)
    unfolding again repeats_at
    verdict-is =
        verdict-cond (reader s es hs) f h a.units a.records
        ∙ rw (ok, enough-areas h a full lent, back.read)
        (ap (λ (x : ℕ). cond (repeats n (expect_on es c) x) (Verdict.Repeat c) (Verdict.Read i)) back.count)

    -- Whose count was the last one taken: nothing changes.
    pub read_again : repeats n (expect_on es c) v ≡ true → Untouched (reader s es hs) h (read (reader s es hs) f h a.units a.records)
    unfolding read
    read_again e = rw (verdict-is, e) (repeated (reader s es hs) f h a c)

    read_is : repeats n (expect_on es c) v ≡ false → read (reader s es hs) f h a.units a.records
        ≡ laid_out g i v (made_by g i (channel_of s i) f h) h a.units a.records
    unfolding read on_verdict read_on
    read_is e =
        rw (verdict-is, e)
        (ap (λ (x : ℕ). laid_out (gap (reader s es hs) c x) i x (made_by (gap (reader s es hs) c x) i (channel_of s i) f h) h a.units a.records)
        back.count)

    made-is : made_by g i (channel_of s i) f h ≡ made b k
    unfolding made_by makes
    made-is =
        ap (λ (r : Reader).
        lane_step (lane r.setting i).kind (lane r.setting i).longest (rule_in r.setting (channel_of s i) f) (holds r.slots h i)
        (points_to (pointer_in r.setting (channel_of s i) f)) (zone_in r.setting (channel_of s i) f)) gap-state
        ∙ rw (back.rule, back.pointer, back.octets)

    pub read-takes : repeats n (expect_on es c) v ≡ false → Taken s es hs h i v (made b k) (read (reader s es hs) f h a.units a.records)
    unfolding laid_out
    read-takes new =
        subst (Taken s es hs h i v (made b k)) (sym (read_is new ∙ ap (λ (m : Made). laid_out g i v m h a.units a.records) made-is))
        (record {
          state = ap (λ (r : Reader). reader r.setting r.expects (set r.slots i (keeps (made b k)))) gap-state;
          area = refl;
          units = λ l. handed-laid l g i v (made b k) h a.units a.records fits sound.units fits_8;
          small = below;
        })
      where
        gr : GoodReader (reader s es hs)
        gr = good_reader (reader s es hs) ok

        fits : length (joined (octets_of (made b k).units)) ≤ units_size
        fits =
            subst (λ (o : Got). o.taken.answer.octets ≤ units_size)
            (read_is new ∙ ap (λ (m : Made). laid_out g i v m h a.units a.records) made-is)
            (read_fits (reader s es hs) f h a.units a.records).room

        sound : MadeSound (made b k)
        sound = subst MadeSound made-is (made-sound (reader s es hs) f h i gr ih v full (channel_of s i))

        below : length (made b k).held.octets ≤ 8192
        below =
            let q = (gr.setting.lanes i ih).kind in
            let p : length (made b k).held.octets < (lane s i).longest = unfold makes in lane_below (lane s i).kind (lane s i).longest
            (rule_of (lane s i).kind k) (holds after h i) (points_to (pointer_of (lane s i).kind (zone s (channel_of s i)) b k))
            (zone_of (lane s i).kind (zone s (channel_of s i)) b k) q.enough in
            omega (arith, p, q.most)

    pub read-ready : repeats n (expect_on es c) v ≡ false → reader_ok (reader_after s es hs i v (made b k)) ≡ true
    read-ready new =
        subst (λ (r : Reader). reader_ok r ≡ true) (read-takes new).state (read_valid (reader s es hs) f h a.units a.records ok)
