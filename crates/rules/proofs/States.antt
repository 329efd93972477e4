-- States: fresh ones are valid, those of zeros are not, and a valid one stays valid when a count is taken, lanes drop what they hold,
-- a lane holds something else, or a frame is written.
use mathlib.Core.Path.{◌≡◌, refl, ap, ap₂}
use mathlib.Core.Logic.{◌≢◌}
use Prim.Native.Nat.{ℕ, zero, suc, ◌+◌, ◌-◌, ◌*◌, ◌^◌, ◌≤◌, ◌<◌}
use native.Mathlib.Nat.{mod-lt, not-suc-le-zero, div-le_of_le-mul}
use native.Mathlib.Omega.{arith}
use mathlib.Core.Bool.{Bool, true, false, cond, not, ◌&&◌}
use mathlib.Core.List.{List, [], ◌∷◌}
use lib.ListN.{length, get_or, set, replicate, get_or-replicate}
use lib.Seq.{get_or-set_same, get_or-set_other}
use borrow.Author.Tests.{lt-ltb, le-ltb, le-leb, leb-true, eqb-true, eqb-false, eq-eqb}
use Rattle.rules.specs.declared.Kind.{Kind}
use Rattle.rules.specs.declared.Kind.TheVariants.{Packets, Access}
use Rattle.rules.specs.declared.Lane.{Lane}
use Rattle.rules.specs.declared.Setting.{Setting}
use Rattle.rules.specs.declared.Expect.{Expect}
use Rattle.rules.specs.declared.Expects.{Expects}
use Rattle.rules.specs.declared.Slot.{Slot}
use Rattle.rules.specs.declared.Reader.{Reader}
use Rattle.rules.specs.declared.Writer.{Writer}
use Rattle.rules.specs.Tests.{◌=?◌, ◌≠?◌, all}
use Rattle.rules.specs.Settings
use Rattle.rules.specs.Settings.{channel, lane, channel_of, expect_on, expect, expecting, no_expects, no_slot, slot, with_expect, with_slot, number, zone, setting_ok, slot_ok, reader_ok, writer_ok, fresh_reader, fresh_writer, no_reader, no_writer}
use Rattle.rules.specs.Writing.{batch_ok, frames, number_after, count_after, writer_after}
use Rattle.rules.specs.Reading.{missing, expected, emptied, lanes_of, gap_by, gap}
use Rattle.rules.proofs.Tests.{split, all-at, all_cons, all_nil, at_every}
use Rattle.rules.proofs.Octets.{pow256_pos}
use Rattle.rules.proofs.Counts.{expected-below}
use Rattle.rules.specs.Valid.{GoodSlot, GoodReader, GoodWriter}
use Rattle.rules.proofs.Valid.{good, some_longest}
use Rattle.rules.specs.Areas.{batch_size}

-- ---- a state is valid when each fact holds

slot-ok : (longest : ℕ) (x : Slot) → GoodSlot longest x → slot_ok longest x ≡ true
unfolding slot_ok
slot-ok longest x g =
    all_cons _ _ (lt-ltb _ _ g.below) (all_cons _ _ (rw (le-ltb _ _ g.within)) (all_cons _ _ (by (x.span =? 0) refl) all_nil))
  where
    by : (t : Bool) → (x.span =? 0) ≡ t → not (t && x.held ≠? 0) ≡ true
    by true e =
        let z : x.span ≡ 0 = eqb-true _ _ e in
        split 1 x.held (λ h. absurd (omega (arith, g.some h))) (λ h. rw (eq-eqb x.held 0 (omega arith)))
    by false e = refl

pub reader-ok : (r : Reader) → GoodReader r → reader_ok r ≡ true
unfolding reader_ok
reader-ok r g =
    all_cons _ _ g.ok
    (all_cons _ _ (at_every _ r.setting.listed (λ c h. lt-ltb _ _ (g.counts c h)))
    (all_cons _ _ (at_every _ r.setting.numbered (λ l h. slot-ok _ (slot r l) (g.slots l h))) all_nil))

pub writer-ok : (w : Writer) → GoodWriter w → writer_ok w ≡ true
unfolding writer_ok
writer-ok w g =
    all_cons _ _ g.ok
    (all_cons _ _ (at_every _ w.setting.listed (λ c h. lt-ltb _ _ (g.counts c h)))
    (all_cons _ _ (at_every _ w.setting.numbered (λ l h. le-leb _ _ (g.numbers l h))) all_nil))

-- ---- what is expected

module _ (xs : Expects) (c : ℕ) (e : Expect) where
  pub expect-same : c < length xs.counts → c < length xs.known → expect_on (expecting xs c e) c ≡ e
  expect-same h k =
      ap₂ (λ (n : ℕ) (b : Bool). record { known = b; count = n }) (get_or-set_same xs.counts c e.count 0 h)
      (get_or-set_same xs.known c e.known false k)

  pub expect-other : (d : ℕ) → d ≢ c → expect_on (expecting xs c e) d ≡ expect_on xs d
  expect-other d h =
      ap₂ (λ (n : ℕ) (b : Bool). record { known = b; count = n }) (get_or-set_other xs.counts c d e.count 0 h)
      (get_or-set_other xs.known c d e.known false h)

pub none-expected : (c : ℕ) → c < 8 → (expect_on no_expects c).known ≡ false
none-expected c h = get_or-replicate 8 c false false h

-- ---- fresh states

zeros : (i : ℕ) → i < 8 → ◌≡◌ {A = ℕ} (get_or (replicate 8 0) i 0) 0
zeros i h = get_or-replicate {A = ℕ} 8 i 0 0 h

-- A lane that holds nothing.
none_good : {longest : ℕ} → 1 ≤ longest → GoodSlot longest no_slot
none_good h = record { below = h; within = omega arith; some = λ k. k }

module _ (s : Setting) (ok : setting_ok s ≡ true) where
  pub fresh-reader : reader_ok (fresh_reader s) ≡ true
  unfolding fresh_reader
  fresh-reader =
      reader-ok (fresh_reader s)
      (record {
        ok = ok;
        setting = good s ok;
        counts = λ c h.
            rw (zeros c (omega (arith, (good s ok).listed))) (pow256_pos (channel s c).octets);
        slots = λ l h.
            let k = some_longest _ _ _ ((good s ok).lanes l h).kind in
            rw (get_or-replicate 8 l no_slot no_slot (omega (arith, (good s ok).numbered))) (none_good k);
      })

  pub fresh-writer : writer_ok (fresh_writer s) ≡ true
  unfolding fresh_writer
  fresh-writer =
      writer-ok (fresh_writer s)
      (record {
        ok = ok;
        setting = good s ok;
        counts = λ c h. rw (zeros c (omega (arith, (good s ok).listed))) (pow256_pos (channel s c).octets);
        numbers = λ l h. rw (zeros l (omega (arith, (good s ok).numbered))) (omega arith);
      })

-- ---- "A state of zeros, which is not valid."

pub no-setting : setting_ok Settings.no_setting ≡ false
unfolding all Settings.setting_ok Settings.ranges_ok Settings.no_setting
no-setting = refl

pub no-reader : reader_ok no_reader ≡ false
unfolding all reader_ok no_reader
no-reader = rw no-setting

pub no-writer : writer_ok no_writer ≡ false
unfolding all writer_ok no_writer
no-writer = rw no-setting

-- ---- what stands in a list after a store

pub set_cases {ℓ} : {A : Type ℓ} (P : A → Type 0) (l : List A) (c i : ℕ) (x d : A) → (i ≡ c → P x) → P (get_or l i d) → P (get_or (set l c x) i d)
set_cases P [] c i x d h k = k
set_cases P (y ∷ l) zero zero x d h k = h refl
set_cases P (y ∷ l) zero (suc i) x d h k = k
set_cases P (y ∷ l) (suc c) zero x d h k = k
set_cases P (y ∷ l) (suc c) (suc i) x d h k = set_cases P l c i x d (λ e. h (ap suc e)) k

-- ---- the reader: a count is taken, lanes drop, a lane holds something else

-- Each slot is as it was, or one of zeros.
emptied-cases : (p : Lane → Bool) (ls : List Lane) (xs : List Slot) (i : ℕ) (P : Slot → Type 0) → P no_slot → P (get_or xs i no_slot)
    → P (get_or (emptied p ls xs) i no_slot)
unfolding emptied
emptied-cases p [] xs i P z k = k
emptied-cases p (l ∷ ls) [] i P z k = k
emptied-cases p (l ∷ ls) (x ∷ xs) zero P z k = go (p l)
  where
    go : (t : Bool) → P (cond t no_slot x)
    go true = z
    go false = k
emptied-cases p (l ∷ ls) (x ∷ xs) (suc i) P z k = emptied-cases p ls xs i P z k

module _ (r : Reader) where
  pub gap-setting : (c k : ℕ) → (gap r c k).state.setting ≡ r.setting
  unfolding gap
  gap-setting c k = go (missing (channel r.setting c).octets (expect r c) k)
    where
      go : (m : ℕ) → (gap_by (with_expect r c (expected (channel r.setting c).octets k)) c m).state.setting ≡ r.setting
      go zero = unfold gap_by in refl
      go (suc m) = unfold gap_by in refl

  pub gap-expects : (c k : ℕ) → (gap r c k).state.expects ≡ expecting r.expects c (expected (channel r.setting c).octets k)
  unfolding gap
  gap-expects c k = go (missing (channel r.setting c).octets (expect r c) k)
    where
      go : (m : ℕ) → (gap_by (with_expect r c (expected (channel r.setting c).octets k)) c m).state.expects
          ≡ expecting r.expects c (expected (channel r.setting c).octets k)
      go zero = unfold gap_by in refl
      go (suc m) = unfold gap_by in refl

  good-taken : GoodReader r → (c k : ℕ)
      → GoodReader (with_expect r c (expected (channel r.setting c).octets k))
  good-taken g c k =
      record {
        ok = g.ok;
        setting = g.setting;
        counts = λ i h.
            set_cases (λ (x : ℕ). x < 256 ^ (channel r.setting i).octets) r.expects.counts c i _ 0
            (λ q. rw q (expected-below (channel r.setting c).octets k)) (g.counts i h);
        slots = g.slots;
      }

  good-gap_by : GoodReader r → (c m : ℕ) → GoodReader (gap_by r c m).state
  unfolding gap_by
  good-gap_by g c zero = g
  good-gap_by g c (suc m) =
      record {
        ok = g.ok;
        setting = g.setting;
        counts = g.counts;
        slots = λ l h.
            let b = g.slots l h in
            emptied-cases (λ (x : Lane). x.channel =? c) (lanes_of r.setting) r.slots l (GoodSlot (lane r.setting l).longest)
            (none_good (omega (arith, b.below))) b;
      }

  -- Lane l has another slot now.
  pub good-slot : GoodReader r → (l : ℕ) (x : Slot) → GoodSlot (lane r.setting l).longest x → GoodReader (with_slot r l x)
  good-slot g l x b =
      record {
        ok = g.ok;
        setting = g.setting;
        counts = g.counts;
        slots = λ i h. set_cases (GoodSlot (lane r.setting i).longest) r.slots l i x no_slot (λ q. rw q b) (g.slots i h);
      }

pub good_gap : (r : Reader) → GoodReader r → (c k : ℕ) → GoodReader (gap r c k).state
unfolding gap
good_gap r g c k = good-gap_by _ (good-taken r g c k) c (missing (channel r.setting c).octets (expect r c) k)

-- ---- the writer: a frame is written

-- A batch has no more frames than octets.
pub frames-few : (z : ℕ) (b : List ℕ) → 1 ≤ z → 1 ≤ length b → frames z b ≤ length b
unfolding frames
frames-few z b h k = div-le_of_le-mul z (go z (length b) h k)
  where
    go : (z n : ℕ) → 1 ≤ z → 1 ≤ n → n + (z - 1) ≤ z * n
    go zero n h k = absurd (not-suc-le-zero h)
    go (suc z) zero h k = absurd (not-suc-le-zero k)
    go (suc z) (suc n) h k = omega arith

pub record GoodBatch (b : List ℕ) : Type 0 where
  pub some : 1 ≤ length b
  pub most : length b ≤ batch_size

pub good_batch : (k : Kind) (longest : ℕ) (b : List ℕ) → longest ≤ 8192 → batch_ok k longest b ≡ true → GoodBatch b
unfolding batch_ok
good_batch Packets longest b h e = record { some = leb-true _ _ (all-at _ 0 e); most = leb-true _ _ (all-at _ 1 e) }
good_batch Access longest b h e =
    let a : length b ≤ longest = leb-true _ _ (all-at _ 1 e) in
    record { some = leb-true _ _ (all-at _ 0 e); most = omega arith }

after-few : (i n : ℕ) → i < n → n ≤ batch_size → number_after i n ≤ 32767
unfolding number_after
after-few i n h k = go ((i + 1) =? n) refl
  where
    go : (t : Bool) → (i + 1) =? n ≡ t → cond t 0 (i + 1) ≤ 32767
    go true e = omega arith
    go false e = let q : i + 1 ≢ n = eqb-false (i + 1) n e in omega arith

pub good_after : (w : Writer) → GoodWriter w → (l : ℕ) (b : List ℕ) → number w l < frames (zone w.setting (channel_of w.setting l)) b
    → frames (zone w.setting (channel_of w.setting l)) b ≤ batch_size → GoodWriter (writer_after w l b)
unfolding writer_after count_after
good_after w g l b h k =
    record {
      ok = g.ok;
      setting = g.setting;
      counts = λ i p.
          set_cases (λ (x : ℕ). x < 256 ^ (channel w.setting i).octets) w.counts (lane w.setting l).channel i _ 0
          (λ q. rw q (mod-lt _ (pow256_pos (channel_of w.setting l).octets))) (g.counts i p);
      numbers = λ i p. set_cases (λ (x : ℕ). x ≤ 32767) w.next l i _ 0 (λ q. after-few (number w l) _ h k) (g.numbers i p);
    }
