-- "The setting."
use Rattle.std.specs.Prelude.{ℕ, ◌+◌, ◌-◌, ◌^◌, Bool, true, false, cond, not, ◌&&◌, [], ◌∷◌, get_or, set, replicate}
use Rattle.std.specs.Bool.{beq}
use Rattle.rules.specs.declared.Kind.{Kind}
use Rattle.rules.specs.declared.Kind.TheVariants.{Packets, Access}
use Rattle.rules.specs.declared.Channel.{Channel}
use Rattle.rules.specs.declared.Lane.{Lane}
use Rattle.rules.specs.declared.Setting.{Setting}
use Rattle.rules.specs.declared.Expect.{Expect}
use Rattle.rules.specs.declared.Expects.{Expects}
use Rattle.rules.specs.declared.Slot.{Slot}
use Rattle.rules.specs.declared.Reader.{Reader}
use Rattle.rules.specs.declared.Writer.{Writer}
use Rattle.rules.specs.Tests.{◌≤?◌, ◌<?◌, ◌=?◌, ◌≠?◌, all, every}

-- ---- slots: a slot that a list does not have is one of zeros

abbrev pub no_channel : Channel
no_channel = record { vc = 0; service = 0; octets = 0; ocf = false }

abbrev pub no_lane : Lane
no_lane = record { channel = 0; map = 0; kind = Packets; longest = 0; upid = 0 }

abbrev pub no_expects : Expects
no_expects = record { counts = replicate 8 0; known = replicate 8 false }

abbrev pub no_slot : Slot
no_slot = record { held = 0; span = 0 }

abbrev pub channel : Setting → ℕ → Channel
channel s c = get_or s.channels c no_channel

abbrev pub lane : Setting → ℕ → Lane
lane s l = get_or s.lanes l no_lane

-- Lane l's channel.
abbrev pub channel_of : Setting → ℕ → Channel
channel_of s l = channel s (lane s l).channel

-- What is expected on channel c.
abbrev pub expect_on : Expects → ℕ → Expect
expect_on xs c = record { known = get_or xs.known c false; count = get_or xs.counts c 0 }

abbrev pub expect : Reader → ℕ → Expect
expect r c = expect_on r.expects c

-- What a reader keeps of lane l.
abbrev pub slot : Reader → ℕ → Slot
slot r l = get_or r.slots l no_slot

-- How many octets lane l holds.
abbrev pub held_by : Reader → ℕ → ℕ
held_by r l = (slot r l).held

-- "Each lane now also keeps the span so far" (document 02, A2).
abbrev pub span_by : Reader → ℕ → ℕ
span_by r l = (slot r l).span

-- With something else expected on channel c, or another slot of lane l, all others as they were.
abbrev pub expecting : Expects → ℕ → Expect → Expects
expecting xs c e = record { counts = set xs.counts c e.count; known = set xs.known c e.known }

abbrev pub with_expect : Reader → ℕ → Expect → Reader
with_expect r c e = record { setting = r.setting; expects = expecting r.expects c e; slots = r.slots }

abbrev pub with_slot : Reader → ℕ → Slot → Reader
with_slot r l x = record { setting = r.setting; expects = r.expects; slots = set r.slots l x }

abbrev pub count : Writer → ℕ → ℕ
count w c = get_or w.counts c 0

-- Lane l's next frame number.
abbrev pub number : Writer → ℕ → ℕ
number w l = get_or w.next l 0

-- ---- the parts of a frame of n octets on a channel, each by the octet at which it begins: "primary header ...; then the count, n octets.
-- After it: insert zone, construction rule 3 bits with UPID 5 bits, pointer 16 bits, zone, OCF, frame check."

abbrev pub ocf_octets : Channel → ℕ
ocf_octets c = cond c.ocf 4 0

abbrev pub check_octets : Setting → ℕ
check_octets s = cond s.check 2 0

abbrev pub count_at : ℕ
count_at = 7

abbrev pub insert_at : Channel → ℕ
insert_at c = count_at + c.octets

-- The data field.
abbrev pub field_at : Setting → Channel → ℕ
field_at s c = insert_at c + s.insert

abbrev pub zone_at : Setting → Channel → ℕ
zone_at s c = field_at s c + 3

-- How many octets the zone has: what is left between the pointer and the OCF.
abbrev pub zone_for : Setting → Channel → ℕ → ℕ
zone_for s c n = n - (zone_at s c + ocf_octets c + check_octets s)

abbrev pub ocf_at : Setting → Channel → ℕ → ℕ
ocf_at s c n = zone_at s c + zone_for s c n

-- The frame check's octets are the last two.
abbrev pub check_at : ℕ → ℕ
check_at n = n - 2

-- "The zone of a channel is Z = F - 7 - n - I - 3, less 4 with OCF, less 2 with frame check."
unfoldable pub zone : Setting → Channel → ℕ
zone s c = zone_for s c s.length

-- ---- a valid setting

-- "Frame length F: 32 to 4,096. Spacecraft number 0 to 65,535; source-or-destination bit. Insert zone I: 0 to 64 octets. Frame
-- check: yes or no."
unfoldable pub ranges_ok : Setting → Bool
ranges_ok s = all (32 ≤? s.length ∷ s.length ≤? 4096 ∷ s.craft ≤? 65535 ∷ s.bit ≤? 1 ∷ s.insert ≤? 64 ∷ [])

-- "A channel is a virtual channel (0 to 62) with a service (0 sequence-controlled, 1 expedited), a count length n of 1 to 7
-- octets, and OCF yes or no." "Z is at least 1 for every channel."
unfoldable pub channel_ok : Setting → Channel → Bool
channel_ok s c = all (c.vc ≤? 62 ∷ c.service ≤? 1 ∷ 1 ≤? c.octets ∷ c.octets ≤? 7 ∷ 1 ≤? zone s c ∷ [])

-- "No pair is listed twice. Two channels of one virtual channel agree about the OCF."
unfoldable pub channels_agree : Channel → Channel → Bool
channels_agree a b = cond (a.vc =? b.vc) (a.service ≠? b.service && beq a.ocf b.ocf) true

-- "1 to 8 channels."
unfoldable pub channels_ok : Setting → Bool
channels_ok s =
    all (1 ≤? s.listed ∷ s.listed ≤? 8 ∷ every s.listed (λ (i : ℕ). channel_ok s (channel s i))
    ∷ every s.listed (λ (i : ℕ). every i (λ (j : ℕ). channels_agree (channel s j) (channel s i))) ∷ [])

-- "Packet lane: longest 7 to 8,192, UPID 0. Access lane: longest 1 to 8,192, UPID 1 to 30": with A5 of document 02, "a packet lane's longest
-- from 2".
unfoldable pub kind_ok : Kind → ℕ → ℕ → Bool
kind_ok Packets longest upid = all (2 ≤? longest ∷ longest ≤? 8192 ∷ upid =? 0 ∷ [])
kind_ok Access longest upid = all (1 ≤? longest ∷ longest ≤? 8192 ∷ 1 ≤? upid ∷ upid ≤? 30 ∷ [])

-- "A lane is a listed channel, a map number 0 to 15, a kind, a longest unit and a protocol number (UPID)."
unfoldable pub lane_ok : Setting → Lane → Bool
lane_ok s l = all (l.channel <? s.listed ∷ l.map ≤? 15 ∷ kind_ok l.kind l.longest l.upid ∷ [])

-- "No two lanes share channel and map."
unfoldable pub lanes_differ : Lane → Lane → Bool
lanes_differ a b = not (a.channel =? b.channel && a.map =? b.map)

-- "1 to 8 lanes, numbered from 0."
unfoldable pub lanes_ok : Setting → Bool
lanes_ok s =
    all (1 ≤? s.numbered ∷ s.numbered ≤? 8 ∷ every s.numbered (λ (i : ℕ). lane_ok s (lane s i))
    ∷ every s.numbered (λ (i : ℕ). every i (λ (j : ℕ). lanes_differ (lane s j) (lane s i))) ∷ [])

-- All of this makes a setting valid.
unfoldable pub setting_ok : Setting → Bool
setting_ok s = all (ranges_ok s ∷ channels_ok s ∷ lanes_ok s ∷ [])

-- ---- states

-- "A fresh reader expects no count, and no lane holds octets."
unfoldable pub fresh_reader : Setting → Reader
fresh_reader s = record { setting = s; expects = no_expects; slots = replicate 8 no_slot }

-- "A fresh writer has every count and every lane's next frame number at 0."
unfoldable pub fresh_writer : Setting → Writer
fresh_writer s = record { setting = s; counts = replicate 8 0; next = replicate 8 0 }

-- "Each lane holds fewer octets than its longest unit"; not valid also "when a held span exceeds the octets held, or is 0 while some are"
-- (document 02, A2).
unfoldable pub slot_ok : ℕ → Slot → Bool
slot_ok longest x = all (x.held <? longest ∷ not (x.held <? x.span) ∷ not (x.span =? 0 && x.held ≠? 0) ∷ [])

-- "A state handed in is valid when its setting is, each count is below 256^n, each lane holds fewer octets than its longest unit,
-- and next frame numbers are at most 32,767." A count is judged whether or not one is expected.
unfoldable pub reader_ok : Reader → Bool
reader_ok r =
    all (setting_ok r.setting
    ∷ every r.setting.listed (λ (c : ℕ). (expect r c).count <? 256 ^ (channel r.setting c).octets)
    ∷ every r.setting.numbered (λ (l : ℕ). slot_ok (lane r.setting l).longest (slot r l)) ∷ [])

unfoldable pub writer_ok : Writer → Bool
writer_ok w =
    all (setting_ok w.setting
    ∷ every w.setting.listed (λ (c : ℕ). count w c <? 256 ^ (channel w.setting c).octets)
    ∷ every w.setting.numbered (λ (l : ℕ). number w l ≤? 32767) ∷ [])

-- ---- "a state of zeros"

unfoldable pub no_setting : Setting
no_setting =
    record {
      length = 0;
      craft = 0;
      bit = 0;
      insert = 0;
      check = false;
      listed = 0;
      channels = replicate 8 no_channel;
      numbered = 0;
      lanes = replicate 8 no_lane;
    }

unfoldable pub no_reader : Reader
no_reader = record { setting = no_setting; expects = no_expects; slots = replicate 8 no_slot }

unfoldable pub no_writer : Writer
no_writer = record { setting = no_setting; counts = replicate 8 0; next = replicate 8 0 }
