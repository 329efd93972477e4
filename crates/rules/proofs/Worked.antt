-- Tables that compute: cases 1 to 10, the listing, the errors that look right, frames sent twice, whole counts and spans, both families of packets, and edges
-- of lanes, frames and calls. Both columns of each come to the same.
use mathlib.Core.Path.{◌≡◌, refl}
use Prim.Native.Nat.{ℕ, zero}
use mathlib.Core.List.{[], ◌∷◌, ◌++◌, map}
use Rattle.rules.specs.Tests
use Rattle.rules.specs.Octets
use Rattle.rules.specs.Areas
use Rattle.rules.specs.Settings
use Rattle.rules.specs.Frames
use Rattle.rules.specs.Packets
use Rattle.rules.specs.Writing
use Rattle.rules.specs.Reading
use Rattle.rules.specs.Refusals
use Rattle.rules.specs.Calls
use Rattle.rules.specs.Listing
use Rattle.rules.specs.Worked
use Rattle.rules.specs.Errors
use Rattle.rules.specs.Families

-- To unfold this is to unfold every rule.
unfoldable pub rules : ℕ
unfolding Tests.all Tests.every Tests.first Tests.given Tests.answered Octets.be Octets.num Octets.widths Octets.packed Octets.bits Octets.check_bit Octets.check_bits Octets.check_from Octets.check_of Areas.laid Areas.joined Settings.zone Settings.ranges_ok Settings.channel_ok Settings.channels_agree Settings.channels_ok Settings.kind_ok Settings.lane_ok Settings.lanes_differ Settings.lanes_ok Settings.setting_ok Settings.fresh_reader Settings.fresh_writer Settings.slot_ok Settings.reader_ok Settings.writer_ok Settings.no_setting Settings.no_reader Settings.no_writer Frames.header Frames.primary Frames.data_header Frames.body Frames.checked Frames.count_in Frames.rule_in Frames.upid_in Frames.pointer_in Frames.zone_in Frames.check_holds Frames.points_to Packets.sized Packets.space_packet Packets.total_in Packets.totalled Packets.alone Packets.encapsulated Packets.headed Packets.measured Packets.measure Packets.packets_up_to Packets.packets Writing.none_above Writing.batch_ok Writing.frames Writing.zone_of Writing.rule_of Writing.start_from Writing.offset_of Writing.inside Writing.pointer_of Writing.frame_of Writing.number_after Writing.count_after Writing.writer_after Reading.missing Reading.expected Reading.last_taken Reading.repeats Reading.emptied Reading.lost Reading.gap_by Reading.gap Reading.carries Reading.both Reading.end_fate Reading.cut_fate Reading.joined_fate Reading.lead_fate Reading.lead Reading.sized_next Reading.cut_next Reading.next_of Reading.walk_up_to Reading.walk Reading.packet_lane Reading.unit_fate Reading.follow_fate Reading.portion Reading.access_lane Reading.lane_step Reading.record_of Reading.records_from Reading.info_of Refusals.channel_at Refusals.lane_at Refusals.rule_fits Refusals.data_wrong Refusals.refusals_at Refusals.refusals Refusals.on_channel Refusals.passed Refusals.judged Refusals.judge Calls.refusal_of Calls.class_refusal Calls.set_up_reader Calls.set_up_writer Calls.write_refusals Calls.written Calls.write Calls.areas_short Calls.laid_out Calls.made_by Calls.read_on Calls.repeats_at Calls.again Calls.on_verdict Calls.read_refusals Calls.verdict Calls.read Calls.look_refusals Calls.looked Calls.missing_at Calls.on_look Calls.look Listing.text Listing.digits Listing.decimal Listing.word Listing.amount Listing.line Listing.lines Listing.listing Worked.worked Worked.sent_by Worked.sends Worked.read_by Worked.reads Worked.each Worked.data_headers Worked.packet_of Worked.cases Errors.paired Errors.sealed Errors.packet_frame Errors.access_frame Errors.forged Errors.shown Errors.refused Errors.errors Errors.edges Errors.copies Errors.wide Errors.spans Errors.laden Errors.laden_writer Errors.counting Errors.laden_sends Errors.wholes Families.families
rules = zero

-- "Cases 1 to 10 are the marked set."
pub cases_hold : map (λ (c : Worked.Case). c.got) Worked.cases ≡ map (λ (c : Worked.Case). c.want) Worked.cases
unfolding rules
cases_hold = refl

-- "Input frames 0, 1, 1 print exactly": the paper's four lines. Empty input prints nothing; a short last frame is refused 3.
pub listing-holds :
    (Listing.listing (Worked.frame₀ ++ Worked.frame₁ ++ Worked.frame₁)
    ≡ Listing.text "frame answer units missing\n0 read 1 0\n1 read 1 0\n2 repeat 0 0\n")
    × (Listing.listing [] ≡ [])
    × (Listing.listing (Worked.frame₀ ++ (0xC0 ∷ []))
    ≡ Listing.text "frame answer units missing\n0 read 1 0\n1 refused 3 0\n")
unfolding rules
listing-holds = (refl, refl, refl)

pub errors_hold : map (λ (c : Worked.Case). c.got) Errors.errors ≡ map (λ (c : Worked.Case). c.want) Errors.errors
unfolding rules
errors_hold = refl

pub edges_hold : map (λ (c : Worked.Case). c.got) Errors.edges ≡ map (λ (c : Worked.Case). c.want) Errors.edges
unfolding rules
edges_hold = refl

pub copies_hold : map (λ (c : Worked.Case). c.got) Errors.copies ≡ map (λ (c : Worked.Case). c.want) Errors.copies
unfolding rules
copies_hold = refl

pub spans_hold : map (λ (c : Worked.Case). c.got) Errors.spans ≡ map (λ (c : Worked.Case). c.want) Errors.spans
unfolding rules
spans_hold = refl

pub families_hold : map (λ (c : Worked.Case). c.got) Families.families ≡ map (λ (c : Worked.Case). c.want) Families.families
unfolding rules
families_hold = refl

pub wholes_hold : map (λ (c : Worked.Case). c.got) Errors.wholes ≡ map (λ (c : Worked.Case). c.want) Errors.wholes
unfolding rules
wholes_hold = refl
