-- How a run is computed: tests of lists and of the calls' order, and every definition unfolded. This file stands on the definitions
-- alone, so that it is proved under a wrong rule too, and what is computed then shows the rule to be wrong (tests/notices).
use mathlib.Core.Path.{◌≡◌, refl, sym, ap, ap₂, ◌∙◌}
use mathlib.Core.Logic.{◌⊎◌, inl, inr}
use Prim.Native.Nat.{ℕ, zero}
use mathlib.Core.Bool.{Bool, true, false, ◌&&◌, ◌||◌, and-eq-true_iff, false≢true}
use mathlib.Core.List.{List, [], ◌∷◌, map}
use lib.Dec.{eqb}
use borrow.Author.Tests.{eqb-true, eq-eqb}
use Rattle.rules.specs.declared.Setting.{Setting}
use Rattle.rules.specs.declared.Writer.{Writer}
use Rattle.std.specs.Prelude.{Result, Ok, Err, is_ok}
use Rattle.rules.specs.declared.Refusal.{Refusal}
use Rattle.rules.specs.Tests
use Rattle.rules.specs.Octets
use Rattle.rules.specs.Areas
use Rattle.rules.specs.Settings
use Rattle.rules.specs.Frames
use Rattle.rules.specs.Packets
use Rattle.rules.specs.Writing
use Rattle.rules.specs.Reading
use Rattle.rules.specs.Refusals
use Rattle.rules.specs.Calls
use Rattle.rules.specs.Worked
use Rattle.rules.specs.Errors
use Rattle.rules.specs.Families
use Rattle.link.specs.Link
use Rattle.link.specs.Due
use Rattle.link.specs.Demand
use Rattle.link.specs.Corollaries
use Rattle.link.specs.Examples

-- ---- tests: what a test finds false is refused at once

-- Two lists, by a test of their entries.
unfoldable pub alike : {A : Type 0} → (A → A → Bool) → List A → List A → Bool
alike like [] [] = true
alike like [] (y ∷ ys) = false
alike like (x ∷ xs) [] = false
alike like (x ∷ xs) (y ∷ ys) = like x y && alike like xs ys

alike_is : {A : Type 0} (like : A → A → Bool) → ((x y : A) → like x y ≡ true → x ≡ y) → (xs ys : List A) → alike like xs ys ≡ true → xs ≡ ys
unfolding alike
alike_is like h [] [] e = refl
alike_is like h [] (y ∷ ys) e = absurd (false≢true e)
alike_is like h (x ∷ xs) [] e = absurd (false≢true e)
alike_is like h (x ∷ xs) (y ∷ ys) e =
    let p = (and-eq-true_iff (like x y) (alike like xs ys)).0 e in
    ap₂ ◌∷◌ (h x y p.0) (alike_is like h xs ys p.1)

is_alike : {A : Type 0} (like : A → A → Bool) → ((x : A) → like x x ≡ true) → (xs : List A) → alike like xs xs ≡ true
unfolding alike
is_alike like h [] = refl
is_alike like h (x ∷ xs) = (and-eq-true_iff (like x x) (alike like xs xs)).1 (h x, is_alike like h xs)

-- Units, lane by lane; or the rows of a table.
abbrev pub same_lists : List (List (List ℕ)) → List (List (List ℕ)) → Bool
same_lists xs ys = alike (alike (alike eqb)) xs ys

pub lists_are : (xs ys : List (List (List ℕ))) → same_lists xs ys ≡ true → xs ≡ ys
lists_are = alike_is _ (alike_is _ (alike_is eqb eqb-true))

pub lists-not : (xs ys : List (List (List ℕ))) → same_lists xs ys ≡ false → xs ≡ ys → ⊥
lists-not xs ys n e =
    let h : same_lists xs xs ≡ true = is_alike _ (is_alike _ (is_alike eqb (λ x. eq-eqb x x refl))) xs in
    false≢true (sym n ∙ ap (λ (zs : List (List (List ℕ))). same_lists xs zs) (sym e) ∙ h)

-- The calls' order.
done_is : (o : Result Unit Refusal) → is_ok o ≡ true → o ≡ Ok tt
done_is (Ok x) e = refl
done_is (Err n) e = absurd (false≢true e)

unfoldable pub in_turn : Writer → (ℕ → List ℕ) → Link.Call → Bool
in_turn w last x = eqb (Settings.number w x.lane) 0 || alike eqb x.batch (last x.lane)

turn_is : (w : Writer) (last : ℕ → List ℕ) (x : Link.Call) → in_turn w last x ≡ true → (Settings.number w x.lane ≡ 0) ⊎ (x.batch ≡ last x.lane)
unfolding in_turn
turn_is w last x e = go (eqb (Settings.number w x.lane) 0) refl e
  where
    go : (t : Bool) → eqb (Settings.number w x.lane) 0 ≡ t → (t || alike eqb x.batch (last x.lane)) ≡ true
        → (Settings.number w x.lane ≡ 0) ⊎ (x.batch ≡ last x.lane)
    go true q h = inl (eqb-true _ _ q)
    go false q h = inr (alike_is eqb eqb-true x.batch (last x.lane) h)

unfoldable pub ordered : Writer → (ℕ → List ℕ) → List (Link.Event Link.Call) → Bool
ordered w last [] = true
ordered w last (Link.Writes x ∷ es) =
    let o : Calls.Sent = Link.called w x in
    is_ok o.sender.outcome && (in_turn w last x && ordered o.sender.state (Demand.lending x.lane x.batch last) es)
ordered w last (Link.Copy c lent ∷ es) = ordered w last es
ordered w last (Link.Stray f lent ∷ es) = ordered w last es

pub ordered_is : (w : Writer) (last : ℕ → List ℕ) (es : List (Link.Event Link.Call)) → ordered w last es ≡ true → Demand.InOrder w last es
unfolding ordered
ordered_is w last [] e = tt
ordered_is w last (Link.Writes x ∷ es) e =
    let a = (and-eq-true_iff (is_ok (Link.called w x).sender.outcome) _).0 e in
    let b = (and-eq-true_iff (in_turn w last x) _).0 a.1 in (
      done_is (Link.called w x).sender.outcome a.0,
      turn_is w last x b.0,
      ordered_is (Link.called w x).sender.state (Demand.lending x.lane x.batch last) es b.1,
    )
ordered_is w last (Link.Copy c lent ∷ es) e = ordered_is w last es e
ordered_is w last (Link.Stray f lent ∷ es) e = ordered_is w last es e

-- To unfold these is to unfold every test, and every definition of the specs.
unfoldable pub tests : ℕ
unfolding alike in_turn ordered
tests = zero

unfoldable pub all : ℕ
unfolding Tests.all Tests.every Tests.first Tests.given Tests.answered Octets.be Octets.num Octets.widths Octets.packed Octets.bits Octets.check_bit Octets.check_bits Octets.check_from Octets.check_of Areas.laid Areas.joined Settings.zone Settings.ranges_ok Settings.channel_ok Settings.channels_agree Settings.channels_ok Settings.kind_ok Settings.lane_ok Settings.lanes_differ Settings.lanes_ok Settings.setting_ok Settings.fresh_reader Settings.fresh_writer Settings.slot_ok Settings.reader_ok Settings.writer_ok Frames.header Frames.primary Frames.data_header Frames.body Frames.checked Frames.count_in Frames.rule_in Frames.upid_in Frames.pointer_in Frames.zone_in Frames.check_holds Frames.points_to Packets.sized Packets.space_packet Packets.total_in Packets.totalled Packets.alone Packets.encapsulated Packets.headed Packets.measured Packets.measure Packets.packets_up_to Packets.packets Writing.none_above Writing.batch_ok Writing.frames Writing.zone_of Writing.rule_of Writing.start_from Writing.offset_of Writing.inside Writing.pointer_of Writing.frame_of Writing.number_after Writing.count_after Writing.writer_after Reading.missing Reading.expected Reading.last_taken Reading.repeats Reading.emptied Reading.lost Reading.gap_by Reading.gap Reading.carries Reading.both Reading.end_fate Reading.cut_fate Reading.joined_fate Reading.lead_fate Reading.lead Reading.sized_next Reading.cut_next Reading.next_of Reading.walk_up_to Reading.walk Reading.packet_lane Reading.unit_fate Reading.follow_fate Reading.portion Reading.access_lane Reading.lane_step Reading.record_of Reading.records_from Reading.info_of Refusals.channel_at Refusals.lane_at Refusals.rule_fits Refusals.data_wrong Refusals.refusals_at Refusals.refusals Refusals.on_channel Refusals.passed Refusals.judged Refusals.judge Calls.refusal_of Calls.class_refusal Calls.set_up_reader Calls.set_up_writer Calls.write_refusals Calls.written Calls.write Calls.areas_short Calls.laid_out Calls.made_by Calls.read_on Calls.repeats_at Calls.again Calls.on_verdict Calls.read_refusals Calls.verdict Calls.read Calls.look_refusals Calls.looked Calls.missing_at Calls.on_look Calls.look Worked.worked Worked.sent_by Worked.sends Worked.read_by Worked.reads Worked.each Worked.data_headers Worked.packet_of Errors.paired Errors.sealed Errors.packet_frame Errors.access_frame Errors.forged Errors.shown Errors.refused Errors.errors Errors.edges Errors.copies Errors.wide Errors.spans Families.families Link.called Link.frame_by Link.arrives Link.flown Link.sent Link.sending Link.arrivals Link.reads Link.unit_by Link.units_by Link.handed Link.handed_out Due.ending Due.back_to Due.none_gone Due.clean Due.frames_on Due.span_back Due.due_in Due.due Demand.lending Demand.enough Demand.inert Demand.passes Demand.all_pass Demand.kept_on Demand.few_gone Corollaries.units_sent Corollaries.units_ended Corollaries.after_calls Corollaries.sent_before Corollaries.all_kept Examples.packet Examples.wide Examples.slim Examples.full Examples.roomy Examples.call Examples.row Examples.strings Examples.closing Examples.calls Examples.wanted Examples.unharmed Examples.mixed Examples.long Examples.wanted_long Examples.gap_of Examples.on_each Examples.got Examples.due_on_each Examples.owed
all = zero

abbrev pub Orderly : Setting → List (Link.Event Link.Call) → Type 0
Orderly s es = ordered (Calls.set_up_writer s).state (λ (l : ℕ). []) es ≡ true

-- A run that meets the premises, and whose reads hand out on some lane something else than what is due there, refutes the demand.
pub refutes : (s : Setting) (ls : List ℕ) (es : List (Link.Event Link.Call)) → Demand.Run s Examples.held es → Demand.Near s es
    → same_lists (Examples.got s ls es) (Examples.owed s ls es) ≡ false → Demand.Demand → ⊥
unfolding Examples.on_each Examples.got Examples.due_on_each Examples.owed
refutes s ls es run near n d = lists-not (Examples.got s ls es) (Examples.owed s ls es) n (exact ls)
  where
    exact : (ls : List ℕ) → Examples.on_each ls (Demand.reads_of s Examples.held es) ≡ Examples.due_on_each ls (Demand.frames_of s es)
    exact [] = refl
    exact (l ∷ ls) = ap₂ ◌∷◌ (ap (map Examples.told) (d s Examples.held es run near l)) (exact ls)
