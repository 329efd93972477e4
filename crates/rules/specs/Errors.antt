-- "Errors that look right": for each, frames whose answers show it. Then edges that the worked frames leave out. What is wanted was
-- worked out by hand from the paper.
use Rattle.std.specs.Prelude.{ℕ, zero, suc, ◌+◌, ◌*◌, ◌/◌, ◌%◌, true, false, List, [], ◌∷◌, ◌++◌, map, take, drop, set, replicate, Option, Some, None}
use Rattle.rules.specs.declared.Kind.TheVariants.{Packets, Access}
use Rattle.rules.specs.declared.Setting.{Setting}
use Rattle.rules.specs.declared.Reader.{Reader}
use Rattle.rules.specs.declared.Writer.{Writer}
use Rattle.rules.specs.declared.Looked.{Looked}
use Rattle.rules.specs.Tests.{given}
use Rattle.rules.specs.Octets.{check_of}
use Rattle.rules.specs.Settings.{no_channel, no_lane, no_reader, no_writer, fresh_reader, held_by, span_by, with_expect, with_slot}
use Rattle.rules.specs.Reading.{DataUnit, unit_of, octets_of, Made, lane_step}
use Rattle.rules.specs.Refusals.{refusals}
use Rattle.rules.specs.Calls.{refusal_of, class_refusal, Sent, write, Got, read, look}
use Rattle.rules.specs.Worked.{small, worked, packet_lane, Case, case, each, class_shown, answer, record_in, packet₀, packet₁, frame₀, frame₁, recounted, packet_of, reads}

-- ---- a setting of two channels and three lanes, all zones of 21 octets

-- Virtual channel 3 with both services. Lanes 0 and 1 carry packets on maps 5 and 6 of service 0, lane 2 access units on map 5 of
-- service 1.
unfoldable pub paired : Setting
paired =
    small false (record { vc = 3; service = 0; octets = 1; ocf = false } ∷ record { vc = 3; service = 1; octets = 1; ocf = false } ∷ [])
    (record { channel = 0; map = 5; kind = Packets; longest = 64; upid = 0 } ∷ record { channel = 0; map = 6; kind = Packets; longest = 64; upid = 0 }
    ∷ record { channel = 1; map = 5; kind = Access; longest = 42; upid = 5 } ∷ [])

-- The worked setting with a frame check.
unfoldable pub sealed : Setting
sealed = small true (record { vc = 3; service = 0; octets = 1; ocf = false } ∷ []) (packet_lane ∷ [])

-- ---- frames of them, by the fields that differ

-- Service 0, rule 000: map, count, pointer, zone.
unfoldable pub packet_frame : ℕ → ℕ → ℕ → List ℕ → List ℕ
packet_frame m k p z = 0xC0 ∷ 0x02 ∷ 0xA0 ∷ (0x60 + m * 2) ∷ 0x00 ∷ 0x1F ∷ 0x01 ∷ k ∷ 0x00 ∷ (p / 256) ∷ (p % 256) ∷ z

-- Service 1, map 5, UPID 5: count, rule, pointer, zone.
unfoldable pub access_frame : ℕ → ℕ → ℕ → List ℕ → List ℕ
access_frame k rule p z = 0xC0 ∷ 0x02 ∷ 0xA0 ∷ 0x6A ∷ 0x00 ∷ 0x1F ∷ 0x81 ∷ k ∷ (rule * 32 + 5) ∷ (p / 256) ∷ (p % 256) ∷ z

-- A frame with other octets at these places.
unfoldable pub forged : List ℕ → List ℕ → List ℕ → List ℕ
forged [] xs f = f
forged (i ∷ is) [] f = f
forged (i ∷ is) (x ∷ xs) f = forged is xs (set f i x)

abbrev pub fill21 : List ℕ
fill21 = replicate 21 0xE0

abbrev pub data21 : List ℕ
data21 = replicate 21 0x77

-- A command frame of service 1 with this count.
abbrev pub command_frame : ℕ → List ℕ
command_frame k = forged (6 ∷ []) (0xC1 ∷ []) (access_frame k 2 20 data21)

-- ---- what a row shows

-- The units that a lane hands out, what it then holds, and the idle, fill and dropped octets.
unfoldable pub shown : Made → List (List ℕ)
shown m = octets_of m.units ++ (m.held.octets ∷ (m.idle ∷ m.fill ∷ m.dropped ∷ []) ∷ [])

-- A packet lane and an access lane whose longest units have 64 and 42 octets: what is held of one frame, what the pointer points to, the zone.
abbrev pub packet_step : List ℕ → Option ℕ → List ℕ → Made
packet_step held p z = lane_step Packets 64 0b000 (unit_of held) p z

abbrev pub unit_step : ℕ → List ℕ → Option ℕ → List ℕ → Made
unit_step rule held p z = lane_step Access 42 rule (unit_of held) p z

abbrev pub of_packets : List ℕ → Option ℕ → List ℕ → List (List ℕ)
of_packets held p z = shown (packet_step held p z)

abbrev pub of_units : ℕ → List ℕ → Option ℕ → List ℕ → List (List ℕ)
of_units rule held p z = shown (unit_step rule held p z)

-- The numbers of the refusals given.
unfoldable pub refused : Setting → List (List ℕ) → List ℕ
refused s [] = []
refused s (f ∷ fs) = given (refusals s f) ∷ refused s fs

-- ---- the paper's five errors

unfoldable pub errors : List Case
errors =
    -- "Watching for loss per map: a lost frame of the neighbor's map passes unseen." Count 1, with the packet's middle, is gone, and a
    -- frame of map 6 comes next.
    case 1 (each answer (reads paired (frame₀ ∷ packet_frame 6 2 0 fill21 ∷ recounted 3 frame₁ ∷ [])))
    ((103 ∷ 1 ∷ 10 ∷ 0 ∷ 0 ∷ 0 ∷ 0 ∷ []) ∷ (103 ∷ 0 ∷ 0 ∷ 1 ∷ 21 ∷ 0 ∷ 11 ∷ []) ∷ (103 ∷ 0 ∷ 0 ∷ 0 ∷ 14 ∷ 0 ∷ 7 ∷ []) ∷ [])
    -- "Refusing a frame of an unlisted map: its count is then missed and good packets are dropped."
    ∷ case 2 (each answer (reads paired (frame₀ ∷ packet_frame 7 1 0 fill21 ∷ recounted 2 frame₁ ∷ [])))
    ((103 ∷ 1 ∷ 10 ∷ 0 ∷ 0 ∷ 0 ∷ 0 ∷ []) ∷ (102 ∷ 0 ∷ 0 ∷ 0 ∷ 0 ∷ 0 ∷ 0 ∷ []) ∷ (103 ∷ 1 ∷ 18 ∷ 0 ∷ 14 ∷ 0 ∷ 0 ∷ []) ∷ [])
    -- "Taking FFFF as 'the packet ended here'." 21 of 60 octets are held.
    ∷ case 3 (of_packets (take 21 (packet_of 60)) None data21) (take 42 (packet_of 60) ∷ (0 ∷ 0 ∷ 0 ∷ []) ∷ [])
    -- "One counter for both services of a virtual channel."
    ∷ case 4 (each answer (reads paired (frame₀ ∷ access_frame 0 1 20 data21 ∷ frame₁ ∷ [])))
    ((103 ∷ 1 ∷ 10 ∷ 0 ∷ 0 ∷ 0 ∷ 0 ∷ []) ∷ (103 ∷ 1 ∷ 21 ∷ 0 ∷ 0 ∷ 0 ∷ 0 ∷ []) ∷ (103 ∷ 1 ∷ 18 ∷ 0 ∷ 14 ∷ 0 ∷ 0 ∷ []) ∷ [])
    -- "Believing the held packet's length against the pointer and reading on from a false start." Of 18 octets 11 are held, and the
    -- pointer is 9.
    ∷ case 5 (of_packets (take 11 packet₁) (Some 9) (drop 11 packet₁ ++ replicate 14 0xE0)) ([] ∷ (12 ∷ 0 ∷ 20 ∷ []) ∷ []) ∷ []

-- ---- edges of the lanes

unfoldable pub edges : List Case
edges =
    -- Pointer 0 with octets held: they are dropped. With nothing held it is no fault.
    case 1 (of_packets (take 11 packet₁) (Some 0) fill21 ++ of_packets [] (Some 0) fill21) ([] ∷ (21 ∷ 0 ∷ 11 ∷ []) ∷ [] ∷ (21 ∷ 0 ∷ 0 ∷ []) ∷ [])
    -- FFFF, and the packet ends sooner; FFFF, and it ends exactly with the zone; FFFF with nothing held.
    ∷ case 2 (of_packets (take 11 packet₁) None (drop 11 packet₁ ++ replicate 14 0x77) ++ (of_packets (take 42 (packet_of 63)) None data21 ++ of_packets [] None fill21))
    ([] ∷ (0 ∷ 0 ∷ 32 ∷ []) ∷ packet_of 63 ∷ [] ∷ (0 ∷ 0 ∷ 0 ∷ []) ∷ [] ∷ (0 ∷ 0 ∷ 21 ∷ []) ∷ [])
    -- Held octets that cannot be read, and held octets that are an idle packet already.
    ∷ case 3 (of_packets (0x20 ∷ []) (Some 7) fill21 ++ of_packets (0xE0 ∷ []) (Some 7) fill21) ([] ∷ (14 ∷ 0 ∷ 8 ∷ []) ∷ [] ∷ (14 ∷ 0 ∷ 8 ∷ []) ∷ [])
    -- Fewer than six octets of a packet, and a pointer above 0.
    ∷ case 4 (of_packets (take 2 packet₀) (Some 3) fill21) ([] ∷ (18 ∷ 0 ∷ 5 ∷ []) ∷ [])
    -- An unreadable first octet drops itself and the rest; idle packets before it count.
    ∷ case 5 (of_packets [] (Some 0) ((0xE0 ∷ 0xE0 ∷ 0x20 ∷ []) ++ replicate 18 0xE0)) ([] ∷ (2 ∷ 0 ∷ 19 ∷ []) ∷ [])
    -- A packet of 64 is held, one of 65 is dropped at once, and so is an idle one of 65.
    ∷ case 6 (of_packets [] (Some 0) (take 21 (packet_of 64)) ++ (of_packets [] (Some 0) (take 21 (packet_of 65)) ++ of_packets [] (Some 0) (0x07 ∷ 0xFF ∷ drop 2 (take 21 (packet_of 65)))))
    (take 21 (packet_of 64) ∷ (0 ∷ 0 ∷ 0 ∷ []) ∷ [] ∷ (0 ∷ 0 ∷ 21 ∷ []) ∷ [] ∷ (0 ∷ 0 ∷ 21 ∷ []) ∷ [])
    -- The longest binds a packet that ends with the lead too: 64 octets are handed out, 65 are not.
    ∷ case 7 (of_packets (take 63 (packet_of 64)) (Some 1) (0x77 ∷ replicate 20 0xE0) ++ of_packets (take 63 (packet_of 65)) (Some 2) (0x77 ∷ 0x77 ∷ replicate 19 0xE0))
    (packet_of 64 ∷ [] ∷ (20 ∷ 0 ∷ 0 ∷ []) ∷ [] ∷ (19 ∷ 0 ∷ 65 ∷ []) ∷ [])
    -- Three octets of a packet at the zone's end are held, and the packet is finished in the next frame.
    ∷ case 8 (of_packets [] (Some 0) (packet₁ ++ take 3 packet₀) ++ of_packets (take 3 packet₀) (Some 7) (drop 3 packet₀ ++ replicate 14 0xE0))
    (packet₁ ∷ take 3 packet₀ ∷ (0 ∷ 0 ∷ 0 ∷ []) ∷ packet₀ ∷ [] ∷ (14 ∷ 0 ∷ 0 ∷ []) ∷ [])
    -- An idle packet over two frames counts as idle when it is finished.
    ∷ case 9 (of_packets (0x07 ∷ 0xFF ∷ 0xC0 ∷ []) (Some 7) (0x00 ∷ 0x00 ∷ 0x03 ∷ replicate 4 0x77 ++ replicate 14 0xE0)) ([] ∷ (24 ∷ 0 ∷ 0 ∷ []) ∷ [])
    -- 010 with nothing held; 001 over held octets; 42 octets finished, and not; 43 octets.
    ∷ case 10 (of_units 0b010 [] (Some 4) data21 ++ (of_units 0b001 data21 (Some 20) data21 ++ (of_units 0b010 data21 (Some 20) data21 ++ (of_units 0b010 data21 None data21 ++ of_units 0b010 (0x77 ∷ data21) (Some 20) data21))))
    ([] ∷ (0 ∷ 16 ∷ 5 ∷ []) ∷ data21 ∷ [] ∷ (0 ∷ 0 ∷ 21 ∷ []) ∷ replicate 42 0x77 ∷ [] ∷ (0 ∷ 0 ∷ 0 ∷ []) ∷ [] ∷ (0 ∷ 0 ∷ 42 ∷ []) ∷ [] ∷ (0 ∷ 0 ∷ 43 ∷ []) ∷ [])
    -- A command frame after a gap is counted, and its channel's lane drops what it holds; an idle frame changes nothing.
    ∷ case 11 (each answer (reads paired (access_frame 0 1 0xFFFF data21 ∷ forged (2 ∷ 3 ∷ []) (0xA7 ∷ 0xE0 ∷ []) frame₀ ∷ command_frame 3 ∷ [])))
    ((103 ∷ 0 ∷ 0 ∷ 0 ∷ 0 ∷ 0 ∷ 0 ∷ []) ∷ (101 ∷ 0 ∷ 0 ∷ 0 ∷ 0 ∷ 0 ∷ 0 ∷ []) ∷ (102 ∷ 0 ∷ 0 ∷ 2 ∷ 0 ∷ 0 ∷ 21 ∷ []) ∷ [])
    -- Each refusal beside the next: frames with both faults, 3 and 4, 4 and 5, then 5 and 6 on to 11 and 12 (9 with another count length).
    ∷ case 12
    (refused sealed (take 31 frame₀ ∷ forged (0 ∷ []) (0xD0 ∷ []) frame₀ ∷ [])
    ∷ refused paired
    (forged (0 ∷ 1 ∷ []) (0xD0 ∷ 0x03 ∷ []) frame₀ ∷ forged (1 ∷ 3 ∷ []) (0x03 ∷ 0x6B ∷ []) frame₀ ∷ forged (3 ∷ 5 ∷ []) (0x6B ∷ 0x20 ∷ []) frame₀
    ∷ forged (3 ∷ 6 ∷ []) (0x8A ∷ 0x41 ∷ []) frame₀ ∷ forged (3 ∷ 6 ∷ []) (0x8A ∷ 0x02 ∷ []) frame₀ ∷ forged (6 ∷ []) (0x0A ∷ []) frame₀
    ∷ forged (6 ∷ 8 ∷ []) (0x09 ∷ 0x20 ∷ []) frame₀ ∷ [])
    ∷ [])
    ((3 ∷ 4 ∷ []) ∷ (5 ∷ 6 ∷ 7 ∷ 8 ∷ 9 ∷ 10 ∷ 11 ∷ []) ∷ [])
    -- Pointers 20, 21 and FFFF; a UPID and a rule that are not the lane's, and both on a map that is in no lane.
    ∷ case 13
    (refused paired
    (packet_frame 5 0 20 fill21 ∷ packet_frame 5 0 21 fill21 ∷ packet_frame 5 0 0xFFFF fill21 ∷ forged (8 ∷ []) (0x01 ∷ []) frame₀
    ∷ forged (8 ∷ []) (0x20 ∷ []) frame₀ ∷ forged (3 ∷ 8 ∷ []) (0x6E ∷ 0xFF ∷ []) frame₀ ∷ [])
    ∷ [])
    ((0 ∷ 12 ∷ 0 ∷ 12 ∷ 12 ∷ 0 ∷ []) ∷ [])
    -- "Low 11 bits ... all ones": with ten of them, or with the other ten, a packet is not idle.
    ∷ case 14
    (of_packets [] (Some 0) ((0x03 ∷ 0xFF ∷ drop 2 (packet_of 10)) ++ replicate 11 0xE0)
    ++ of_packets [] (Some 0) ((0x07 ∷ 0xFE ∷ drop 2 (packet_of 10)) ++ replicate 11 0xE0))
    ((0x03 ∷ 0xFF ∷ drop 2 (packet_of 10)) ∷ [] ∷ (11 ∷ 0 ∷ 0 ∷ []) ∷ (0x07 ∷ 0xFE ∷ drop 2 (packet_of 10)) ∷ [] ∷ (11 ∷ 0 ∷ 0 ∷ []) ∷ []) ∷ []

-- ---- frames sent twice (document 02, A3)

unfoldable pub copies : List Case
copies =
    -- Frame 0 three times: the copies change nothing, and frame 1 finishes the packet that frame 0 has begun.
    case 1 (each answer (reads paired (frame₀ ∷ frame₀ ∷ frame₀ ∷ frame₁ ∷ [])))
    ((103 ∷ 1 ∷ 10 ∷ 0 ∷ 0 ∷ 0 ∷ 0 ∷ []) ∷ (104 ∷ 0 ∷ 0 ∷ 0 ∷ 0 ∷ 0 ∷ 0 ∷ []) ∷ (104 ∷ 0 ∷ 0 ∷ 0 ∷ 0 ∷ 0 ∷ 0 ∷ []) ∷ (103 ∷ 1 ∷ 18 ∷ 0 ∷ 14 ∷ 0 ∷ 0 ∷ []) ∷ [])
    -- A fresh reader's first frame is no repeat, whatever its count; the count before 0 is 255.
    ∷ case 2 (each answer (reads paired (recounted 255 frame₀ ∷ recounted 255 frame₀ ∷ recounted 0 frame₁ ∷ [])))
    ((103 ∷ 1 ∷ 10 ∷ 0 ∷ 0 ∷ 0 ∷ 0 ∷ []) ∷ (104 ∷ 0 ∷ 0 ∷ 0 ∷ 0 ∷ 0 ∷ 0 ∷ []) ∷ (103 ∷ 1 ∷ 18 ∷ 0 ∷ 14 ∷ 0 ∷ 0 ∷ []) ∷ [])
    -- Counts alone are compared: a frame of the neighbor's map, and of a map in no lane. Refusal 12 comes before: pointer 21.
    ∷ case 3 (each answer (reads paired (frame₀ ∷ packet_frame 6 0 0 fill21 ∷ packet_frame 7 0 0 fill21 ∷ packet_frame 5 0 21 fill21 ∷ frame₁ ∷ [])))
    ((103 ∷ 1 ∷ 10 ∷ 0 ∷ 0 ∷ 0 ∷ 0 ∷ []) ∷ (104 ∷ 0 ∷ 0 ∷ 0 ∷ 0 ∷ 0 ∷ 0 ∷ []) ∷ (104 ∷ 0 ∷ 0 ∷ 0 ∷ 0 ∷ 0 ∷ 0 ∷ []) ∷ (12 ∷ 0 ∷ 0 ∷ 0 ∷ 0 ∷ 0 ∷ 0 ∷ [])
    ∷ (103 ∷ 1 ∷ 18 ∷ 0 ∷ 14 ∷ 0 ∷ 0 ∷ []) ∷ [])
    -- Each service has its own: count 0 on the other one is taken. A command frame's count is taken too, so that its copy is a repeat.
    ∷ case 4 (each answer (reads paired (frame₀ ∷ access_frame 0 1 20 data21 ∷ command_frame 1 ∷ command_frame 1 ∷ access_frame 2 1 20 data21 ∷ frame₀ ∷ [])))
    ((103 ∷ 1 ∷ 10 ∷ 0 ∷ 0 ∷ 0 ∷ 0 ∷ []) ∷ (103 ∷ 1 ∷ 21 ∷ 0 ∷ 0 ∷ 0 ∷ 0 ∷ []) ∷ (102 ∷ 0 ∷ 0 ∷ 0 ∷ 0 ∷ 0 ∷ 0 ∷ []) ∷ (104 ∷ 0 ∷ 0 ∷ 0 ∷ 0 ∷ 0 ∷ 0 ∷ [])
    ∷ (103 ∷ 1 ∷ 21 ∷ 0 ∷ 0 ∷ 0 ∷ 0 ∷ []) ∷ (104 ∷ 0 ∷ 0 ∷ 0 ∷ 0 ∷ 0 ∷ 0 ∷ []) ∷ [])
    -- 254 frames gone are seen; of 255 the next one is called a repeat, and the one after it is joined to octets of another packet.
    ∷ case 5 (each answer (reads paired (frame₀ ∷ recounted 255 frame₁ ∷ [])) ++ each answer (reads paired (frame₀ ∷ recounted 0 frame₀ ∷ recounted 1 frame₁ ∷ [])))
    ((103 ∷ 1 ∷ 10 ∷ 0 ∷ 0 ∷ 0 ∷ 0 ∷ []) ∷ (103 ∷ 0 ∷ 0 ∷ 254 ∷ 14 ∷ 0 ∷ 18 ∷ []) ∷ (103 ∷ 1 ∷ 10 ∷ 0 ∷ 0 ∷ 0 ∷ 0 ∷ []) ∷ (104 ∷ 0 ∷ 0 ∷ 0 ∷ 0 ∷ 0 ∷ 0 ∷ [])
    ∷ (103 ∷ 1 ∷ 18 ∷ 0 ∷ 14 ∷ 0 ∷ 0 ∷ []) ∷ [])
    -- A block of two frames that is sent twice: frame 0 comes again with 254 missing, and all units come a second time.
    ∷ case 6 (each answer (reads paired (frame₀ ∷ frame₁ ∷ frame₀ ∷ frame₁ ∷ [])))
    ((103 ∷ 1 ∷ 10 ∷ 0 ∷ 0 ∷ 0 ∷ 0 ∷ []) ∷ (103 ∷ 1 ∷ 18 ∷ 0 ∷ 14 ∷ 0 ∷ 0 ∷ []) ∷ (103 ∷ 1 ∷ 10 ∷ 254 ∷ 0 ∷ 0 ∷ 0 ∷ []) ∷ (103 ∷ 1 ∷ 18 ∷ 0 ∷ 14 ∷ 0 ∷ 0 ∷ []) ∷ []) ∷ []

-- ---- the whole count and the span in the record (document 02, A2)

-- The spans of the units that a lane hands out, and of what it then holds.
abbrev pub spans_of : Made → List ℕ
spans_of m = map (λ (u : DataUnit). u.span) m.units ++ (m.held.span ∷ [])

-- What a state keeps of each of three lanes: octets held, and their span.
abbrev pub kept_by : Got → List ℕ
kept_by o =
    let r : Reader = o.taken.state in
    held_by r 0 ∷ span_by r 0 ∷ held_by r 1 ∷ span_by r 1 ∷ held_by r 2 ∷ span_by r 2 ∷ []

-- The same, and count and span of the record that stands first in its area.
abbrev pub kept_and_filed : Got → List ℕ
kept_and_filed o = kept_by o ++ take 12 (drop 12 o.record_area)

-- Three frames of a packet of 60 octets on map m, by its count: the first 21, the next 21, the last 18 with fill.
abbrev pub first_of60 : ℕ → ℕ → List ℕ
first_of60 m k = packet_frame m k 0 (take 21 (packet_of 60))

abbrev pub more_of60 : ℕ → ℕ → List ℕ
more_of60 m k = packet_frame m k 0xFFFF data21

abbrev pub last_of60 : ℕ → ℕ → List ℕ
last_of60 m k = packet_frame m k 18 (replicate 18 0x77 ++ replicate 3 0xE0)

-- The three, with two of a packet of the other map among them, one of a map of no lane, and its copy.
abbrev pub among60 : List (List ℕ)
among60 =
    first_of60 5 0 ∷ first_of60 6 1 ∷ more_of60 5 2 ∷ packet_frame 7 3 0 fill21 ∷ packet_frame 7 3 0 fill21 ∷ more_of60 6 4 ∷ last_of60 5 5 ∷ []

-- A reader of the worked setting whose lane l keeps this: the number that a read is refused by for it, and that a look is.
abbrev pub keeping : ℕ → ℕ → ℕ → Reader
keeping l held span = with_slot (fresh_reader (worked packet_lane)) l (record { held = held; span = span })

abbrev pub kept_refusal : ℕ → ℕ → ℕ → List ℕ
kept_refusal l held span =
    class_refusal (read (keeping l held span) (take 31 frame₀) (replicate 65536 0) (replicate 12288 0) (replicate 49152 0)).taken.answer.class
    ∷ class_refusal (look (keeping l held span) (take 31 frame₀)).class ∷ []

-- The worked setting with counts of seven octets: Z is 15.
unfoldable pub wide : Setting
wide = small false (record { vc = 3; service = 0; octets = 7; ocf = false } ∷ []) (packet_lane ∷ [])

-- A frame of it: the count's octets, pointer, zone.
abbrev pub wide_frame : List ℕ → ℕ → List ℕ → List ℕ
wide_frame k p z = (0xC0 ∷ 0x02 ∷ 0xA0 ∷ 0x6A ∷ 0x00 ∷ 0x1F ∷ 0x07 ∷ []) ++ k ++ (0x00 ∷ 0x00 ∷ p ∷ []) ++ z

unfoldable pub spans : List Case
spans =
    -- The frame that ends a unit counts. One that ends a packet and begins the next, which is whole, or is held; one that carries a packet on.
    case 1
    (spans_of (packet_step (take 3 packet₀) (Some 7) (drop 3 packet₀ ++ packet₀ ++ replicate 4 0xE0))
    ∷ spans_of (packet_step (take 3 packet₀) (Some 7) (drop 3 packet₀ ++ take 14 packet₁))
    ∷ spans_of (packet_step (take 21 (packet_of 60)) None data21) ∷ [])
    ((2 ∷ 1 ∷ 0 ∷ []) ∷ (2 ∷ 1 ∷ []) ∷ (2 ∷ []) ∷ [])
    -- What is dropped, and what was idle, leaves no span: pointer 0; idle packets over two frames, the second of which ends with the zone; 010 with nothing held;
    -- a unit that reaches the longest.
    ∷ case 2
    (spans_of (packet_step (take 11 packet₁) (Some 0) fill21)
    ∷ spans_of (packet_step (0x07 ∷ 0xFF ∷ 0xC0 ∷ []) (Some 7) (0x00 ∷ 0x00 ∷ 0x03 ∷ replicate 4 0x77 ++ replicate 14 0xE0))
    ∷ spans_of (packet_step (0x07 ∷ 0xFF ∷ 0xC0 ∷ []) None (0x00 ∷ 0x00 ∷ 0x11 ∷ replicate 18 0x77))
    ∷ spans_of (unit_step 0b010 [] (Some 4) data21) ∷ spans_of (unit_step 0b010 data21 None data21) ∷ [])
    ((0 ∷ []) ∷ (0 ∷ []) ∷ (0 ∷ []) ∷ (0 ∷ []) ∷ (0 ∷ []) ∷ [])
    -- 001 over held octets begins anew, finished and not; 010 follows them, finished and not.
    ∷ case 3
    (spans_of (unit_step 0b001 data21 (Some 20) data21) ∷ spans_of (unit_step 0b001 data21 None data21) ∷ spans_of (unit_step 0b010 data21 (Some 20) data21)
    ∷ spans_of (unit_step 0b010 (take 20 data21) None data21) ∷ [])
    ((1 ∷ 0 ∷ []) ∷ (1 ∷ []) ∷ (2 ∷ 0 ∷ []) ∷ (2 ∷ []) ∷ [])
    -- "A held span exceeds the octets held, or is 0 while some are": 1, of a read and of a look; 3 otherwise, for the frame is short. A slot of no lane is not
    -- judged.
    ∷ case 4
    (kept_refusal 0 0 0 ∷ kept_refusal 0 0 1 ∷ kept_refusal 0 1 0 ∷ kept_refusal 0 1 1 ∷ kept_refusal 0 1 2 ∷ kept_refusal 0 63 63 ∷ kept_refusal 0 63 64
    ∷ kept_refusal 0 64 1 ∷ kept_refusal 1 0 1 ∷ [])
    ((3 ∷ 3 ∷ []) ∷ (1 ∷ 1 ∷ []) ∷ (1 ∷ 1 ∷ []) ∷ (3 ∷ 3 ∷ []) ∷ (1 ∷ 1 ∷ []) ∷ (3 ∷ 3 ∷ []) ∷ (1 ∷ 1 ∷ []) ∷ (1 ∷ 1 ∷ []) ∷ (3 ∷ 3 ∷ []) ∷ [])
    -- Counts above 2^32, whole: 01 00 00 00 00 00 05 and the one after it.
    ∷ case 5
    (each record_in
    (reads wide
    (wide_frame (1 ∷ 0 ∷ 0 ∷ 0 ∷ 0 ∷ 0 ∷ 5 ∷ []) 0 (packet₀ ++ take 5 packet₁)
    ∷ wide_frame (1 ∷ 0 ∷ 0 ∷ 0 ∷ 0 ∷ 0 ∷ 6 ∷ []) 13 (drop 5 packet₁ ++ replicate 2 0xE0) ∷ [])))
    ((0x00 ∷ 0x03 ∷ 0x05 ∷ 0x00 ∷ 0 ∷ 0 ∷ 0 ∷ 0 ∷ 0 ∷ 0 ∷ 0 ∷ 10 ∷ 0 ∷ 1 ∷ 0 ∷ 0 ∷ 0 ∷ 0 ∷ 0 ∷ 5 ∷ 0 ∷ 0 ∷ 0 ∷ 1 ∷ 0x55 ∷ [])
    ∷ (0x00 ∷ 0x03 ∷ 0x05 ∷ 0x00 ∷ 0 ∷ 0 ∷ 0 ∷ 0 ∷ 0 ∷ 0 ∷ 0 ∷ 18 ∷ 0 ∷ 1 ∷ 0 ∷ 0 ∷ 0 ∷ 0 ∷ 0 ∷ 6 ∷ 0 ∷ 0 ∷ 0 ∷ 2 ∷ 0x55 ∷ []) ∷ [])
    -- Frames of its lane alone: neighbors', Counted ones and copies do not count. The last record says count 5, span 3.
    ∷ case 6 (each kept_and_filed (reads paired among60))
    ((21 ∷ 1 ∷ 0 ∷ 0 ∷ 0 ∷ 0 ∷ replicate 12 0x55) ∷ (21 ∷ 1 ∷ 21 ∷ 1 ∷ 0 ∷ 0 ∷ replicate 12 0x55) ∷ (42 ∷ 2 ∷ 21 ∷ 1 ∷ 0 ∷ 0 ∷ replicate 12 0x55)
    ∷ (42 ∷ 2 ∷ 21 ∷ 1 ∷ 0 ∷ 0 ∷ replicate 12 0x55) ∷ (42 ∷ 2 ∷ 21 ∷ 1 ∷ 0 ∷ 0 ∷ replicate 12 0x55) ∷ (42 ∷ 2 ∷ 42 ∷ 2 ∷ 0 ∷ 0 ∷ replicate 12 0x55)
    ∷ (0 ∷ 0 ∷ 42 ∷ 2 ∷ 0 ∷ 0 ∷ 0 ∷ 0 ∷ 0 ∷ 0 ∷ 0 ∷ 0 ∷ 0 ∷ 5 ∷ 0 ∷ 0 ∷ 0 ∷ 3 ∷ []) ∷ [])
    -- A gap clears the spans of all lanes of its channel and of no other, also where a Counted frame shows it; what comes next is read.
    ∷ case 7
    (each kept_by (reads paired (first_of60 5 0 ∷ first_of60 6 1 ∷ access_frame 0 1 0xFFFF data21 ∷ packet_frame 7 9 0 fill21 ∷ first_of60 5 10 ∷ [])))
    ((21 ∷ 1 ∷ 0 ∷ 0 ∷ 0 ∷ 0 ∷ []) ∷ (21 ∷ 1 ∷ 21 ∷ 1 ∷ 0 ∷ 0 ∷ []) ∷ (21 ∷ 1 ∷ 21 ∷ 1 ∷ 21 ∷ 1 ∷ []) ∷ (0 ∷ 0 ∷ 0 ∷ 0 ∷ 21 ∷ 1 ∷ [])
    ∷ (21 ∷ 1 ∷ 0 ∷ 0 ∷ 21 ∷ 1 ∷ []) ∷ []) ∷ []

-- ---- edges of the frame and of the calls

-- A setting that has everything: F 48, spacecraft ABCD, bit 1, I 3, a check; virtual channel 45, service 1, n 3, OCF; map 9, an access
-- lane with UPID 21. Z is 48 - 7 - 3 - 3 - 3 - 4 - 2 = 26.
unfoldable pub laden : Setting
laden =
    record {
      length = 48;
      craft = 0xABCD;
      bit = 1;
      insert = 3;
      check = true;
      listed = 1;
      channels = record { vc = 45; service = 1; octets = 3; ocf = true } ∷ replicate 7 no_channel;
      numbered = 1;
      lanes = record { channel = 0; map = 9; kind = Access; longest = 100; upid = 21 } ∷ replicate 7 no_lane;
    }

-- Its writer before the count wraps around.
unfoldable pub laden_writer : Writer
laden_writer = record { setting = laden; counts = set (replicate 8 0) 0 0xFFFFFF; next = replicate 8 0 }

-- The numbers from n on, k of them.
unfoldable pub counting : ℕ → ℕ → List ℕ
counting n zero = []
counting n (suc k) = n ∷ counting (suc n) k

unfoldable pub laden_sends : ℕ → Writer → List (List ℕ)
laden_sends zero w = []
laden_sends (suc n) w =
    let o : Sent = write w 0 (counting 1 30) (0xA1 ∷ 0xA2 ∷ 0xA3 ∷ []) (0xF1 ∷ 0xF2 ∷ 0xF3 ∷ 0xF4 ∷ []) (replicate 49 0x55) in
    o.area ∷ laden_sends n o.sender.state

-- Both frames of thirty octets. The first seven octets, bit by bit: 1100 1010101111001101 1 101101 1001 0, then 47, then 1 0 00 1 011. The
-- check is that of another program.
abbrev pub laden_frame₀ : List ℕ
laden_frame₀ =
    (0xCA ∷ 0xBC ∷ 0xDD ∷ 0xB2 ∷ 0x00 ∷ 0x2F ∷ 0x8B ∷ 0xFF ∷ 0xFF ∷ 0xFF ∷ 0xA1 ∷ 0xA2 ∷ 0xA3 ∷ 0x35 ∷ 0xFF ∷ 0xFF ∷ [])
    ++ counting 1 26 ++ (0xF1 ∷ 0xF2 ∷ 0xF3 ∷ 0xF4 ∷ 0xDE ∷ 0x0D ∷ [])

abbrev pub laden_frame₁ : List ℕ
laden_frame₁ =
    (0xCA ∷ 0xBC ∷ 0xDD ∷ 0xB2 ∷ 0x00 ∷ 0x2F ∷ 0x8B ∷ 0x00 ∷ 0x00 ∷ 0x00 ∷ 0xA1 ∷ 0xA2 ∷ 0xA3 ∷ 0x55 ∷ 0x00 ∷ 0x03 ∷ [])
    ++ counting 27 4 ++ replicate 22 0x00 ++ (0xF1 ∷ 0xF2 ∷ 0xF3 ∷ 0xF4 ∷ 0x8A ∷ 0x8C ∷ [])

-- The number that a write of the worked setting is refused by: state, lane, batch, insert octets, octets of the area.
abbrev pub write_refusal : Writer → ℕ → List ℕ → List ℕ → ℕ → ℕ
write_refusal w l b insert n = refusal_of (write w l b insert [] (replicate n 0)).sender.outcome

abbrev pub worked_writer : ℕ → Writer
worked_writer i = record { setting = worked packet_lane; counts = replicate 8 0; next = set (replicate 8 0) 0 i }

-- The number that a read of frame 0 less an octet is refused by: state, octets of the three areas.
abbrev pub read_refusal : Reader → ℕ → ℕ → ℕ → ℕ
read_refusal r h u c = class_refusal (read r (take 31 frame₀) (replicate h 0) (replicate u 0) (replicate c 0)).taken.answer.class

-- A look's class and missing, and the places of channel and lane, each and one; 0 for none.
abbrev pub place_shown : Option ℕ → ℕ
place_shown (Some i) = suc i
place_shown None = 0

abbrev pub look_shown : Looked → List ℕ
look_shown o = class_shown o.class ∷ o.missing ∷ place_shown o.channel ∷ place_shown o.lane ∷ []

-- Looks of a reader that expects count 1 on the first of two channels, and none on the other.
abbrev pub paired_after : Reader
paired_after = with_expect (fresh_reader paired) 0 (record { known = true; count = 1 })

abbrev pub looks_after : List (List ℕ) → List (List ℕ)
looks_after fs = map (λ (f : List ℕ). look_shown (look paired_after f)) fs

-- Octets of a read's held area and unit area, and one more of each.
abbrev pub areas : Got → List ℕ
areas o = take 12 o.held_area ++ take 11 o.unit_area

unfoldable pub wholes : List Case
wholes =
    -- Published values of the frame check: the catalogue's check value of "123456789", and those of ECSS-E-70-41A.
    case 1
    ((check_of (counting 0x31 9) ∷ check_of (0 ∷ 0 ∷ []) ∷ check_of (0 ∷ 0 ∷ 0 ∷ []) ∷ check_of (0xAB ∷ 0xCD ∷ 0xEF ∷ 0x01 ∷ [])
    ∷ check_of (0x14 ∷ 0x56 ∷ 0xF8 ∷ 0x9A ∷ 0x00 ∷ 0x01 ∷ []) ∷ [])
    ∷ [])
    ((0x29B1 ∷ 0x1D0F ∷ 0xCC9C ∷ 0x04A2 ∷ 0x7FD5 ∷ []) ∷ [])
    -- Frames with everything, and an octet of the area behind them; a frame check that holds, and one that does not.
    ∷ case 2 (laden_sends 2 laden_writer ++ (refused laden (laden_frame₀ ∷ laden_frame₁ ∷ set laden_frame₀ 47 0x0C ∷ []) ∷ []))
    ((laden_frame₀ ++ 0x55 ∷ []) ∷ (laden_frame₁ ++ 0x55 ∷ []) ∷ (0 ∷ 0 ∷ 4 ∷ []) ∷ [])
    -- Both are read as one unit of thirty octets.
    ∷ case 3 (each answer (reads laden (laden_frame₀ ∷ laden_frame₁ ∷ []))) ((103 ∷ 0 ∷ 0 ∷ 0 ∷ 0 ∷ 0 ∷ 0 ∷ []) ∷ (103 ∷ 1 ∷ 30 ∷ 0 ∷ 0 ∷ 22 ∷ 0 ∷ []) ∷ [])
    -- Each refusal of a write beside the next: 1 and 2, 2 and 13, 13 and 14, 14 and 15, 15 and 16, 16, none.
    ∷ case 4
    ((write_refusal no_writer 0 packet₀ [] 0 ∷ write_refusal (worked_writer 0) 1 packet₀ [] 31 ∷ write_refusal (worked_writer 0) 1 [] [] 32
    ∷ write_refusal (worked_writer 0) 0 [] (0 ∷ []) 32 ∷ write_refusal (worked_writer 1) 0 packet₀ (0 ∷ []) 32
    ∷ write_refusal (worked_writer 1) 0 packet₀ [] 32 ∷ write_refusal (worked_writer 0) 0 packet₀ [] 32 ∷ [])
    ∷ [])
    ((1 ∷ 2 ∷ 13 ∷ 14 ∷ 15 ∷ 16 ∷ 0 ∷ []) ∷ [])
    -- A read's 1, then 2 and 3 for each area, then 3.
    ∷ case 5
    ((read_refusal no_reader 0 0 0 ∷ read_refusal (fresh_reader (worked packet_lane)) 65535 12288 49152
    ∷ read_refusal (fresh_reader (worked packet_lane)) 65536 12287 49152 ∷ read_refusal (fresh_reader (worked packet_lane)) 65536 12288 49151
    ∷ read_refusal (fresh_reader (worked packet_lane)) 65536 12288 49152 ∷ [])
    ∷ [])
    ((1 ∷ 2 ∷ 2 ∷ 2 ∷ 3 ∷ []) ∷ [])
    -- The areas after frame 0, and after a gap has dropped what was held: its octets stay where they were.
    ∷ case 6 (each areas (reads (worked packet_lane) (frame₀ ∷ recounted 5 frame₁ ∷ [])))
    ((take 11 packet₁ ++ (0x55 ∷ []) ++ packet₀ ++ (0x55 ∷ [])) ∷ (take 11 packet₁ ++ (0x55 ∷ []) ++ packet₀ ++ (0x55 ∷ [])) ∷ [])
    -- Looks where count 1 is expected: frame 1 with one gone before it, twice; a map of no lane with two gone; the other service, on which none was expected;
    -- an idle frame; frame 0 less an octet; a repeat of frame 0, and of its count on a map of no lane.
    ∷ case 7
    (looks_after
    (recounted 2 frame₁ ∷ recounted 2 frame₁ ∷ packet_frame 7 3 0 fill21 ∷ access_frame 9 1 20 data21 ∷ forged (2 ∷ 3 ∷ []) (0xA7 ∷ 0xE0 ∷ []) frame₀
    ∷ take 31 frame₀ ∷ frame₀ ∷ packet_frame 7 0 0 fill21 ∷ []))
    ((103 ∷ 1 ∷ 1 ∷ 1 ∷ []) ∷ (103 ∷ 1 ∷ 1 ∷ 1 ∷ []) ∷ (102 ∷ 2 ∷ 1 ∷ 0 ∷ []) ∷ (103 ∷ 0 ∷ 2 ∷ 3 ∷ []) ∷ (101 ∷ 0 ∷ 0 ∷ 0 ∷ []) ∷ (3 ∷ 0 ∷ 0 ∷ 0 ∷ [])
    ∷ (104 ∷ 0 ∷ 1 ∷ 0 ∷ []) ∷ (104 ∷ 0 ∷ 1 ∷ 0 ∷ []) ∷ [])
    -- A bad frame with a short area: a look says what the frame is refused by, a read says 2. A state of zeros: both say 1.
    ∷ case 8
    ((class_refusal (look (fresh_reader (worked packet_lane)) (take 31 frame₀)).class ∷ read_refusal (fresh_reader (worked packet_lane)) 65535 12288 49152
    ∷ class_refusal (look no_reader (take 31 frame₀)).class ∷ read_refusal no_reader 65536 12288 49152 ∷ [])
    ∷ [])
    ((3 ∷ 2 ∷ 1 ∷ 1 ∷ []) ∷ []) ∷ []
