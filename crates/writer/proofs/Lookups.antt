-- What a valid state and an accepted call give: slots that are there, an upcoming frame that can be laid, and the state after it.
use mathlib.Core.Path.{◌≡◌, refl, sym, ap, ◌∙◌}
use Prim.Native.Nat.{ℕ, zero, suc, ◌+◌, ◌-◌, ◌*◌, ◌/◌, ◌%◌, ◌^◌, ◌≤◌, ◌<◌}
use native.Mathlib.Nat.{mul-le-mul, le-div_iff_mul-le, pow-le-pow_right, zero-lt-suc, mod-eq_of_lt}
use native.Mathlib.Omega.{arith}
use mathlib.Core.Bool.{true, false}
use mathlib.Core.List.{List}
use lib.ListN.{length, set}
use Rattle.rules.specs.declared.Writer.{Writer}
use Rattle.rules.specs.declared.Refusal.{Refusal}
use Rattle.std.specs.Prelude.{Some, None, Result, Ok, Err, IsErrAnd}
use Rattle.rules.specs.Tests.{number_of, given}
use Rattle.rules.specs.Areas.{laid}
use Rattle.rules.specs.Settings.{lane, channel_of, count, number, zone, writer_ok}
use Rattle.rules.specs.Writing.{batch_ok, frames, frame_of, number_after, count_after, writer_after}
use Rattle.rules.specs.Calls.{refusal_of, write_refusals}
use Rattle.rules.specs.Promises.{outcome_leaves, WriteGives}
use Rattle.rules.specs.Valid.{Good}
use Rattle.rules.proofs.Valid.{good_writer, good_channel_of}
use Rattle.rules.proofs.Tests.{some_number}
use Rattle.rules.proofs.Calls.{Accepted, none-refused}
use Rattle.rules.proofs.Written.{zone-small}
use Rattle.writer.specs.declared.frames.Upcoming.{Upcoming}
use Rattle.batches.specs.Starts.{Keeps, StartsAt}
use Rattle.writer.specs.Lookups.{upcoming_of, late_refusals, batch_refusals, Judges}
use Rattle.writer.specs.Fits.{upcoming_frame, FrameFits}

-- ---- slots

pub record Slots (w : Writer) (l : ℕ) : Type 0 where
  pub eight : l < 8
  pub place : (lane w.setting l).channel < 8
  pub octets : (channel_of w.setting l).octets ≤ 7

pub slots : (w : Writer) (l : ℕ) → writer_ok w ≡ true → l < w.setting.numbered → Slots w l
slots w l ok h =
    let g : Good w.setting = (good_writer w ok).setting in
    record {
      eight = omega (arith, g.numbered);
      place = omega (arith, g.listed, (g.lanes l h).channel);
      octets = (good_channel_of g l h).seven;
    }

-- ---- counts

-- n octets, at most seven, have this many counts.
pub modulus_small : (n m : ℕ) → n ≤ 7 → m ≡ 256 ^ n % 2 ^ 64 → m ≡ 256 ^ n
modulus_small n m h e =
    let s : 256 ^ n ≤ 256 ^ 7 = pow-le-pow_right (zero-lt-suc 255) h in
    e ∙ mod-eq_of_lt (omega arith)

-- ---- a frame that a batch has begins inside it

pub begins : (z n i : ℕ) → i < (n + (z - 1)) / z → i * z < n
begins zero n i h = absurd (omega (arith, native.Mathlib.Nat.div-zero (n + (0 - 1))))
begins (suc z) n i h =
    let k : suc i * suc z ≤ n + (suc z - 1) = (le-div_iff_mul-le (zero-lt-suc z)).0 h in
    omega arith

pub ready : (w : Writer) (l : ℕ) (batch insert ocf area : List ℕ) → Accepted w l batch insert ocf area
    → FrameFits w.setting (upcoming_of w l) batch insert ocf area
unfolding upcoming_of zone frames
ready w l batch insert ocf area a =
    let g : Good w.setting = a.good.setting in
    let c = good_channel_of g l a.numbered in
    record {
      some = omega (arith, g.low);
      most = omega (arith, g.high);
      octets = c.seven;
      begins = begins (zone w.setting (channel_of w.setting l)) (length batch) (number w l) a.below;
      small = zone-small w.setting g (channel_of w.setting l);
      room = omega (arith, a.room, a.insert, a.ocf, c.room);
    }

-- The octet at which its zone begins can be worked out before it is known whether the batch has it.
pub begins-small : (w : Writer) (l : ℕ) (x : Upcoming) → writer_ok w ≡ true → l < w.setting.numbered → x ≡ upcoming_of w l
    → x.number * x.zone < 2 ^ 64
unfolding upcoming_of
begins-small w l x ok h e =
    let g = good_writer w ok in
    let n : x.number ≤ 32767 = rw e (g.numbers l h) in
    let z : x.zone ≤ 4096 = rw e (zone-small w.setting g.setting (channel_of w.setting l)) in
    let m : x.number * x.zone ≤ 32767 * 4096 = mul-le-mul n z in
    omega arith

-- ---- what the checks say

module _ (w : Writer) (l : ℕ) (batch insert ocf : List ℕ) (x : Upcoming) (e : x ≡ upcoming_of w l) where
  -- A batch that keeps its rule, and what comes after it; or one that does not.
  pub judged-kept : (start : ℕ) (r : Result Unit Refusal) → Keeps x.lane.kind x.lane.longest batch (x.number * x.zone) (Some start)
      → refusal_of r ≡ given (late_refusals w.setting x batch insert ocf)
      → (refusal_of r ≡ given (batch_refusals w l batch insert ocf))
      × StartsAt (lane w.setting l).kind batch (number w l * zone w.setting (channel_of w.setting l)) start
  unfolding given batch_refusals upcoming_of
  judged-kept start r k m =
      let q : Keeps (lane w.setting l).kind (lane w.setting l).longest batch (number w l * zone w.setting (channel_of w.setting l)) (Some start) =
      rw e at k in
      (m ∙ ap (λ (y : Upcoming). given (late_refusals w.setting y batch insert ocf)) e ∙ rw q.0, q.1)

  -- Then a later refusal that is passed on is the answer.
  pub judged-late : (start : ℕ) → Keeps x.lane.kind x.lane.longest batch (x.number * x.zone) (Some start)
      → (r : Result ℕ Refusal) (n : Refusal) → IsErrAnd r (λ (y : Refusal). y ≡ n)
      → number_of n ≡ given (late_refusals w.setting x batch insert ocf) → Judges w l batch (batch_refusals w l batch insert ocf) r
  unfolding refusal_of
  judged-late start k (Ok y) n h m = absurd h
  judged-late start k (Err y) n h m = record { says = (judged-kept start (Err y) k (ap number_of h ∙ m)).0; starts = tt }

  pub judged_broken : Keeps x.lane.kind x.lane.longest batch (x.number * x.zone) None
      → Judges w l batch (batch_refusals w l batch insert ocf) (Err Refusal.Batch)
  unfolding given batch_refusals upcoming_of refusal_of
  judged_broken k =
      let q : batch_ok (lane w.setting l).kind (lane w.setting l).longest batch ≡ false = rw e at k in
      record { says = rw q; starts = tt }

-- ---- the state after

pub record Counting (w : Writer) (l : ℕ) (x : Upcoming) (m : ℕ) : Type 0 where
  pub small : x.count + 1 < 2 ^ 64
  pub some : 0 < m
  pub place : x.place < 8
  pub eight : l < 8

pub counting : (w : Writer) (l : ℕ) (x : Upcoming) (m : ℕ) → writer_ok w ≡ true → l < w.setting.numbered → x ≡ upcoming_of w l
    → m ≡ 256 ^ x.channel.octets % 2 ^ 64 → Counting w l x m
unfolding upcoming_of
counting w l x m ok h e f =
    let s = slots w l ok h in
    let g = good_writer w ok in
    let n : x.channel.octets ≤ 7 = rw e s.octets in
    let b : 256 ^ x.channel.octets ≤ 256 ^ 7 = pow-le-pow_right (zero-lt-suc 255) n in
    let k : x.count < 256 ^ x.channel.octets = rw e (g.counts (lane w.setting l).channel (g.setting.lanes l h).channel) in
    record {
      small = omega arith;
      some = rw (modulus_small x.channel.octets m n f) (omega arith);
      place = rw e s.place;
      eight = s.eight;
    }

pub after_is : (w : Writer) (l : ℕ) (batch : List ℕ) (x : Upcoming) (m n k : ℕ) → writer_ok w ≡ true → l < w.setting.numbered → x ≡ upcoming_of w l
    → m ≡ 256 ^ x.channel.octets % 2 ^ 64 → n ≡ (length batch + (x.zone - 1)) / x.zone → k ≡ number_after x.number n
    → ◌≡◌ {A = Writer} (record { setting = w.setting; counts = set w.counts x.place ((x.count + 1) % m); next = set w.next l k })
    (writer_after w l batch)
unfolding upcoming_of writer_after count_after frames
after_is w l batch x m n k ok h e f a b =
    let s = slots w l ok h in
    let q : m ≡ 256 ^ x.channel.octets = modulus_small x.channel.octets m (rw e s.octets) f in
    rw (b, a, q, e)

-- ---- the call

-- The upcoming frame is the rule's.
pub same-frame : (w : Writer) (l : ℕ) (batch insert ocf : List ℕ)
    → upcoming_frame w.setting (upcoming_of w l) batch insert ocf
    ≡ frame_of w.setting l (count w (lane w.setting l).channel) batch insert ocf (number w l)
unfolding upcoming_frame upcoming_of frame_of
same-frame w l batch insert ocf = refl

module _ (w : Writer) (l : ℕ) (batch insert ocf area : List ℕ) (j : Result ℕ Refusal)
    (e : refusal_of j ≡ given (write_refusals w l batch insert ocf area)) where
  pub accepted : (start : ℕ) → j ≡ Ok start → Accepted w l batch insert ocf area
  unfolding refusal_of
  accepted start q = none-refused w l batch insert ocf area (sym e ∙ ap refusal_of q)

  pub written_is : (start : ℕ) → j ≡ Ok start → (x : Upcoming) (t : Writer) (d : List ℕ) → x ≡ upcoming_of w l → t ≡ writer_after w l batch
      → d ≡ laid area 0 (upcoming_frame w.setting x batch insert ocf)
      → WriteGives w l batch insert ocf area (record { outcome = Ok tt; state = t }) d
  unfolding refusal_of outcome_leaves
  written_is start q x t d f g h =
      record {
        told = record { refusal = ap refusal_of (sym q) ∙ e; done = λ z. refl };
        state = g;
        frame =
            h ∙ ap (λ (y : List ℕ). laid area 0 y)
            (ap (λ (y : Upcoming). upcoming_frame w.setting y batch insert ocf) f ∙ same-frame w l batch insert ocf);
      }

  pub refused_is : (n : Refusal) → j ≡ Err n → WriteGives w l batch insert ocf area (record { outcome = Err n; state = w }) area
  unfolding refusal_of outcome_leaves
  refused_is n q =
      let m : number_of n ≡ given (write_refusals w l batch insert ocf area) = ap refusal_of (sym q) ∙ e in
      record { told = record { refusal = m; done = λ z. absurd (some_number n (m ∙ z)) }; state = refl; frame = refl }
