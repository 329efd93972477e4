-- "Worked frames", cases 1 to 10, of the calls' own rules: a table of what the rules give and what the paper prints.
use Rattle.std.specs.Prelude.{ℕ, zero, suc, ◌-◌, Bool, false, List, [], ◌∷◌, ◌++◌, length, get_or, take, drop, set, replicate}
use Rattle.rules.specs.declared.Kind.TheVariants.{Packets, Access}
use Rattle.rules.specs.declared.Channel.{Channel}
use Rattle.rules.specs.declared.Lane.{Lane}
use Rattle.rules.specs.declared.Setting.{Setting}
use Rattle.rules.specs.declared.Reader.{Reader}
use Rattle.rules.specs.declared.Writer.{Writer}
use Rattle.rules.specs.declared.Class.{Class}
use Rattle.rules.specs.declared.Answer.{Answer}
use Rattle.rules.specs.Settings.{no_channel, no_lane}
use Rattle.rules.specs.Calls.{set_up_reader, set_up_writer, Sent, write, Got, read}
use Rattle.rules.specs.Areas.{held_size, records_size, units_size}

-- ---- the setting

-- A setting of frames of 32 octets, spacecraft 42, bit 0, no insert zone, with a check or without, of these channels and lanes.
abbrev pub small : Bool → List Channel → List Lane → Setting
small check cs ls =
    record {
      length = 32;
      craft = 42;
      bit = 0;
      insert = 0;
      check = check;
      listed = length cs;
      channels = cs ++ replicate (8 - length cs) no_channel;
      numbered = length ls;
      lanes = ls ++ replicate (8 - length ls) no_lane;
    }

-- "F 32, I 0, no check, spacecraft 42, bit 0, channel 3 service 0, n 1, no OCF", and one lane.
unfoldable pub worked : Lane → Setting
worked l = small false (record { vc = 3; service = 0; octets = 1; ocf = false } ∷ []) (l ∷ [])

-- "Map 5, packet lane 0, longest 64."
abbrev pub packet_lane : Lane
packet_lane = record { channel = 0; map = 5; kind = Packets; longest = 64; upid = 0 }

-- "Access lane, UPID 5."
abbrev pub access_lane : Lane
access_lane = record { channel = 0; map = 5; kind = Access; longest = 64; upid = 5 }

-- ---- calls in a row

-- The frames that n writes of one batch on lane 0 leave in an area of their own.
unfoldable pub sent_by : ℕ → Writer → List ℕ → List (List ℕ)
sent_by zero w b = []
sent_by (suc n) w b =
    let o : Sent = write w 0 b [] [] (replicate 32 0x55) in
    o.area ∷ sent_by n o.sender.state b

unfoldable pub sends : Setting → ℕ → List ℕ → List (List ℕ)
sends s n b = sent_by n (set_up_writer s).state b

-- What reads in a row give, each lent the areas that the last one left.
unfoldable pub read_by : Reader → List ℕ → List ℕ → List ℕ → List (List ℕ) → List Got
read_by r h u c [] = []
read_by r h u c (f ∷ fs) =
    let o : Got = read r f h u c in
    o ∷ read_by o.taken.state o.held_area o.unit_area o.record_area fs

unfoldable pub reads : Setting → List (List ℕ) → List Got
reads s fs = read_by (set_up_reader s).state (replicate held_size 0x55) (replicate units_size 0x55) (replicate records_size 0x55) fs

-- ---- what a row of the table shows

-- Units, unit octets, missing, idle, fill, dropped.
abbrev pub numbers : Got → List ℕ
numbers o =
    let a : Answer = o.taken.answer in
    a.units ∷ a.octets ∷ a.missing ∷ a.idle ∷ a.fill ∷ a.dropped ∷ []

-- A class by a number: a refusal's own, and one of four above them.
abbrev pub class_shown : Class → ℕ
class_shown Class.Idle = 101
class_shown Class.Counted = 102
class_shown Class.Read = 103
class_shown Class.Repeat = 104
class_shown (Class.Refused n) = n

-- Class, and all these numbers.
abbrev pub answer : Got → List ℕ
answer o = class_shown o.taken.answer.class ∷ numbers o

abbrev pub missing_of : Got → ℕ
missing_of o = o.taken.answer.missing

-- The record area's first record, and one octet more.
abbrev pub record_in : Got → List ℕ
record_in o = take 25 o.record_area

-- Each of the reads.
unfoldable pub each {ℓ} : {A : Type ℓ} → (Got → A) → List Got → List A
each f [] = []
each f (o ∷ os) = f o ∷ each f os

-- Rule, UPID and pointer of a frame of the worked setting.
unfoldable pub data_headers : List (List ℕ) → List (List ℕ)
data_headers [] = []
data_headers (f ∷ fs) = take 3 (drop 8 f) ∷ data_headers fs

-- The frame with another count.
abbrev pub recounted : ℕ → List ℕ → List ℕ
recounted k f = set f 7 k

-- ---- the worked batch and its frames

-- "00 01 C0 00 00 03 A1 A2 A3 A4, then 00 01 C0 01 00 0B B1 to BC."
abbrev pub packet₀ : List ℕ
packet₀ = 0x00 ∷ 0x01 ∷ 0xC0 ∷ 0x00 ∷ 0x00 ∷ 0x03 ∷ 0xA1 ∷ 0xA2 ∷ 0xA3 ∷ 0xA4 ∷ []

abbrev pub packet₁ : List ℕ
packet₁ =
    0x00 ∷ 0x01 ∷ 0xC0 ∷ 0x01 ∷ 0x00 ∷ 0x0B ∷ 0xB1 ∷ 0xB2 ∷ 0xB3 ∷ 0xB4 ∷ 0xB5 ∷ 0xB6 ∷ 0xB7 ∷ 0xB8 ∷ 0xB9 ∷ 0xBA ∷ 0xBB ∷ 0xBC ∷ []

-- The two frames as the paper prints them.
abbrev pub frame₀ : List ℕ
frame₀ = (0xC0 ∷ 0x02 ∷ 0xA0 ∷ 0x6A ∷ 0x00 ∷ 0x1F ∷ 0x01 ∷ 0x00 ∷ 0x00 ∷ 0x00 ∷ 0x00 ∷ []) ++ packet₀ ++ take 11 packet₁

abbrev pub frame₁ : List ℕ
frame₁ = (0xC0 ∷ 0x02 ∷ 0xA0 ∷ 0x6A ∷ 0x00 ∷ 0x1F ∷ 0x01 ∷ 0x01 ∷ 0x00 ∷ 0x00 ∷ 0x07 ∷ []) ++ drop 11 packet₁ ++ replicate 14 0xE0

-- "A packet of 60", or of another length.
unfoldable pub packet_of : ℕ → List ℕ
packet_of n = 0x00 ∷ 0x01 ∷ 0xC0 ∷ 0x00 ∷ 0x00 ∷ (n - 7) ∷ replicate (n - 6) 0x77

abbrev pub packet_sends : ℕ → List ℕ → List (List ℕ)
packet_sends n b = sends (worked packet_lane) n b

abbrev pub access_sends : ℕ → List ℕ → List (List ℕ)
access_sends n b = sends (worked access_lane) n b

abbrev pub packet_reads : List (List ℕ) → List Got
packet_reads fs = reads (worked packet_lane) fs

-- ---- the table

-- A case's number, what the rules give, and what the paper prints.
pub record Case : Type 0 where
  pub number : ℕ
  pub got : List (List ℕ)
  pub want : List (List ℕ)

abbrev pub case : ℕ → List (List ℕ) → List (List ℕ) → Case
case n g w = record { number = n; got = g; want = w }

unfoldable pub cases : List Case
cases =
    case 1 (take 4 (get_or (packet_sends 1 (packet₀ ++ packet₁)) 0 []) ∷ []) ((0xC0 ∷ 0x02 ∷ 0xA0 ∷ 0x6A ∷ []) ∷ [])
    ∷ case 2 (packet_sends 1 (packet₀ ++ packet₁)) (frame₀ ∷ [])
    ∷ case 3 (drop 1 (packet_sends 2 (packet₀ ++ packet₁))) (frame₁ ∷ [])
    -- "Case 4 is amended" (document 02, A2): up to the length as printed, then the counts 0 and 1 in 8 octets, and the spans 1 and 2.
    ∷ case 4 (each record_in (packet_reads (frame₀ ∷ frame₁ ∷ [])))
    ((0x00 ∷ 0x03 ∷ 0x05 ∷ 0x00 ∷ 0 ∷ 0 ∷ 0 ∷ 0 ∷ 0 ∷ 0 ∷ 0 ∷ 0x0A ∷ 0 ∷ 0 ∷ 0 ∷ 0 ∷ 0 ∷ 0 ∷ 0 ∷ 0 ∷ 0 ∷ 0 ∷ 0 ∷ 0x01 ∷ 0x55 ∷ [])
    ∷ (0x00 ∷ 0x03 ∷ 0x05 ∷ 0x00 ∷ 0 ∷ 0 ∷ 0 ∷ 0 ∷ 0 ∷ 0 ∷ 0 ∷ 0x12 ∷ 0 ∷ 0 ∷ 0 ∷ 0 ∷ 0 ∷ 0 ∷ 0 ∷ 0x01 ∷ 0 ∷ 0 ∷ 0 ∷ 0x02 ∷ 0x55 ∷ []) ∷ [])
    ∷ case 5 (each numbers (packet_reads (frame₁ ∷ []))) ((0 ∷ 0 ∷ 0 ∷ 14 ∷ 0 ∷ 7 ∷ []) ∷ [])
    ∷ case 6 (drop 1 (each numbers (packet_reads (frame₀ ∷ recounted 2 frame₁ ∷ [])))) ((0 ∷ 0 ∷ 1 ∷ 14 ∷ 0 ∷ 18 ∷ []) ∷ [])
    ∷ case 7 (data_headers (packet_sends 3 (packet_of 60) ++ packet_sends 3 (packet_of 63)))
    ((0 ∷ 0 ∷ 0 ∷ []) ∷ (0 ∷ 0xFF ∷ 0xFF ∷ []) ∷ (0 ∷ 0 ∷ 18 ∷ []) ∷ (0 ∷ 0 ∷ 0 ∷ []) ∷ (0 ∷ 0xFF ∷ 0xFF ∷ []) ∷ (0 ∷ 0xFF ∷ 0xFF ∷ []) ∷ [])
    ∷ case 8 (data_headers (access_sends 1 (replicate 21 0x77) ++ access_sends 2 (replicate 22 0x77)) ++ drop 12 (get_or (access_sends 2 (replicate 22 0x77)) 1 []) ∷ [])
    ((0x25 ∷ 0x00 ∷ 0x14 ∷ []) ∷ (0x25 ∷ 0xFF ∷ 0xFF ∷ []) ∷ (0x45 ∷ 0x00 ∷ 0x00 ∷ []) ∷ replicate 20 0x00 ∷ [])
    ∷ case 9
    (each missing_of (packet_reads (recounted 254 frame₀ ∷ recounted 255 frame₀ ∷ recounted 0 frame₀ ∷ []))
    ∷ each missing_of (packet_reads (recounted 255 frame₀ ∷ recounted 2 frame₀ ∷ [])) ∷ [])
    ((0 ∷ 0 ∷ 0 ∷ []) ∷ (0 ∷ 2 ∷ []) ∷ [])
    -- "Case 10 gives repeat" (document 02, A3).
    ∷ case 10 (each answer (packet_reads (recounted 5 frame₀ ∷ recounted 5 frame₀ ∷ [])))
    ((103 ∷ 1 ∷ 10 ∷ 0 ∷ 0 ∷ 0 ∷ 0 ∷ []) ∷ (104 ∷ 0 ∷ 0 ∷ 0 ∷ 0 ∷ 0 ∷ 0 ∷ []) ∷ [])
    ∷ []
