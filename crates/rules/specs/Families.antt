-- "Encapsulation packets" (document 02, A5): a table of what is measured, of walks and leads with both families, of what is too long, of batches and of
-- settings. What is wanted was worked out by hand from the paper.
use Rattle.std.specs.Prelude.{ℕ, List, [], ◌∷◌, ◌++◌, map, take, replicate, Option, Some, None}
use Rattle.rules.specs.declared.Kind.TheVariants.{Packets}
use Rattle.rules.specs.declared.Family.TheVariants.{Space, Encapsulation}
use Rattle.rules.specs.declared.Measure.{Measure}
use Rattle.rules.specs.declared.Measure.TheVariants.{Lacks, Packet, Idle, Unreadable}
use Rattle.rules.specs.Settings.{fresh_reader}
use Rattle.rules.specs.Packets.{measure}
use Rattle.rules.specs.Reading.{unit_of, lane_step}
use Rattle.rules.specs.Calls.{class_refusal, look}
use Rattle.rules.specs.Worked.{Case, case, worked, packet₀, frame₀, sends, packet_lane}
use Rattle.rules.specs.Errors.{shown, write_refusal, worked_writer}

-- A measure by a number for what it says, and its own: octets are lacking, a Space Packet, an encapsulation packet, an idle one, unreadable.
abbrev pub measure_shown : Measure → List ℕ
measure_shown (Lacks k) = 1 ∷ k ∷ []
measure_shown (Packet Space n) = 2 ∷ n ∷ []
measure_shown (Packet Encapsulation n) = 3 ∷ n ∷ []
measure_shown (Idle n) = 4 ∷ n ∷ []
measure_shown Unreadable = 5 ∷ []

abbrev pub measures : List (List ℕ) → List (List ℕ)
measures xs = map (λ (x : List ℕ). measure_shown (measure x)) xs

-- A packet lane of this longest: what is held, what the pointer points to, the zone.
abbrev pub of_lane : ℕ → List ℕ → Option ℕ → List ℕ → List (List ℕ)
of_lane longest held p z = shown (lane_step Packets longest 0b000 (unit_of held) p z)

-- An encapsulation packet of four octets, with a header of two; the header of one of ten, which has eight octets.
abbrev pub short : List ℕ
short = 0xE5 ∷ 0x04 ∷ 0x61 ∷ 0x62 ∷ []

abbrev pub eight : List ℕ
eight = 0xE7 ∷ 0x00 ∷ 0x00 ∷ 0x00 ∷ 0x00 ∷ 0x00 ∷ 0x00 ∷ 0x0A ∷ []

-- The number that a write of this batch is refused by.
abbrev pub batches : List (List ℕ) → List ℕ
batches bs = map (λ (b : List ℕ). write_refusal (worked_writer 0) 0 b [] 32) bs

-- The number that a look at frame 0 less an octet is refused by, where the packet lane has this longest.
abbrev pub of_longest : ℕ → ℕ
of_longest n = class_refusal (look (fresh_reader (worked (record { channel = 0; map = 5; kind = Packets; longest = n; upid = 0 }))) (take 31 frame₀)).class

unfoldable pub families : List Case
families =
    -- Each header, with a total below it, at it and above; 2^32 - 1. Octets between the first and the length say nothing.
    case 1
    (measures
    ((0xE4 ∷ []) ∷ (0xFC ∷ 0xFF ∷ []) ∷ (0xE5 ∷ 0x01 ∷ []) ∷ (0xE5 ∷ 0x02 ∷ []) ∷ (0xFD ∷ 0xFF ∷ 0x77 ∷ []) ∷ (0xE6 ∷ 0xFF ∷ 0x00 ∷ 0x03 ∷ [])
    ∷ (0xE6 ∷ 0xFF ∷ 0x00 ∷ 0x04 ∷ []) ∷ (0xE6 ∷ 0xFF ∷ 0x01 ∷ 0x02 ∷ []) ∷ (0xE7 ∷ 0xFF ∷ 0xFF ∷ 0xFF ∷ 0x00 ∷ 0x00 ∷ 0x00 ∷ 0x07 ∷ [])
    ∷ (0xE7 ∷ 0xFF ∷ 0xFF ∷ 0xFF ∷ 0x00 ∷ 0x00 ∷ 0x00 ∷ 0x08 ∷ []) ∷ (0xE7 ∷ replicate 8 0xFF) ∷ []))
    ((5 ∷ []) ∷ (5 ∷ []) ∷ (5 ∷ []) ∷ (3 ∷ 2 ∷ []) ∷ (3 ∷ 255 ∷ []) ∷ (5 ∷ []) ∷ (3 ∷ 4 ∷ []) ∷ (3 ∷ 258 ∷ []) ∷ (5 ∷ []) ∷ (3 ∷ 8 ∷ [])
    ∷ (3 ∷ 4294967295 ∷ []) ∷ [])
    -- "Protocol 000 is idle at all four sizes"; a total below the header is unreadable there too. Other first bits are.
    ∷ case 2
    (measures
    ((0xE0 ∷ []) ∷ (0xE1 ∷ 0x01 ∷ []) ∷ (0xE1 ∷ 0x02 ∷ []) ∷ (0xE2 ∷ 0x00 ∷ 0x00 ∷ 0x04 ∷ []) ∷ (0xE3 ∷ 0x00 ∷ 0x00 ∷ 0x00 ∷ 0x00 ∷ 0x00 ∷ 0x00 ∷ 0x08 ∷ [])
    ∷ (0x20 ∷ []) ∷ (0x40 ∷ []) ∷ (0x60 ∷ []) ∷ (0x80 ∷ []) ∷ (0xA0 ∷ []) ∷ (0xDF ∷ []) ∷ packet₀ ∷ []))
    ((4 ∷ 1 ∷ []) ∷ (5 ∷ []) ∷ (4 ∷ 2 ∷ []) ∷ (4 ∷ 4 ∷ []) ∷ (4 ∷ 8 ∷ []) ∷ (5 ∷ []) ∷ (5 ∷ []) ∷ (5 ∷ []) ∷ (5 ∷ []) ∷ (5 ∷ []) ∷ (5 ∷ []) ∷ (2 ∷ 10 ∷ []) ∷ [])
    -- How many octets the header still lacks.
    ∷ case 3
    (measures
    ([] ∷ (0xE5 ∷ []) ∷ (0xE6 ∷ []) ∷ (0xE6 ∷ 0x00 ∷ 0x00 ∷ []) ∷ (0xE7 ∷ []) ∷ take 7 eight ∷ take 1 packet₀ ∷ take 5 packet₀ ∷ (0xE1 ∷ []) ∷ []))
    ((1 ∷ 1 ∷ []) ∷ (1 ∷ 1 ∷ []) ∷ (1 ∷ 3 ∷ []) ∷ (1 ∷ 1 ∷ []) ∷ (1 ∷ 7 ∷ []) ∷ (1 ∷ 1 ∷ []) ∷ (1 ∷ 5 ∷ []) ∷ (1 ∷ 1 ∷ []) ∷ (1 ∷ 1 ∷ []) ∷ [])
    -- Both families in one zone, with idle packets of two, four and one octet; then an encapsulation packet whose header is cut, and its end.
    ∷ case 4
    (of_lane 64 [] (Some 0) (packet₀ ++ short ++ (0xE1 ∷ 0x02 ∷ []) ++ (0xE2 ∷ 0x00 ∷ 0x00 ∷ 0x04 ∷ 0xE0 ∷ []))
    ++ (of_lane 64 [] (Some 18) (replicate 18 0x77 ++ take 3 eight)
    ++ of_lane 64 (take 3 eight) (Some 7) ((0x00 ∷ 0x00 ∷ 0x00 ∷ 0x00 ∷ 0x0A ∷ 0x61 ∷ 0x62 ∷ []) ++ replicate 14 0xE0)))
    (packet₀ ∷ short ∷ [] ∷ (7 ∷ 0 ∷ 0 ∷ []) ∷ take 3 eight ∷ (0 ∷ 0 ∷ 18 ∷ []) ∷ (eight ++ 0x61 ∷ 0x62 ∷ []) ∷ [] ∷ (14 ∷ 0 ∷ 0 ∷ []) ∷ [])
    -- A cut packet whose size is not known, in the walk: held below the longest, dropped at it.
    ∷ case 5
    (of_lane 2 [] (Some 20) (replicate 21 0x00) ++ (of_lane 2 [] (Some 19) (replicate 21 0x00) ++ (of_lane 7 [] (Some 0) (take 6 eight) ++ of_lane 7 [] (Some 0) (take 7 eight))))
    ((0x00 ∷ []) ∷ (0 ∷ 0 ∷ 20 ∷ []) ∷ [] ∷ (0 ∷ 0 ∷ 21 ∷ []) ∷ take 6 eight ∷ (0 ∷ 0 ∷ 0 ∷ []) ∷ [] ∷ (0 ∷ 0 ∷ 7 ∷ []) ∷ [])
    -- The same of held octets and a lead that may go on; one that had to end fails. With its eighth octet a packet of eight is whole.
    ∷ case 6
    (of_lane 3 (0x00 ∷ []) None (0x01 ∷ []) ++ (of_lane 2 (0x00 ∷ []) None (0x01 ∷ []) ++ (of_lane 64 (0xE6 ∷ []) (Some 1) (0x00 ∷ 0xE0 ∷ [])
    ++ of_lane 8 (0xE7 ∷ replicate 6 0x00) None (0x08 ∷ []))))
    ((0x00 ∷ 0x01 ∷ []) ∷ (0 ∷ 0 ∷ 0 ∷ []) ∷ [] ∷ (0 ∷ 0 ∷ 2 ∷ []) ∷ [] ∷ (1 ∷ 0 ∷ 2 ∷ []) ∷ (0xE7 ∷ replicate 6 0x00 ++ 0x08 ∷ []) ∷ [] ∷ (0 ∷ 0 ∷ 0 ∷ []) ∷ [])
    -- A known size: 64 is held and 65 dropped, idle or not; 2^32 - 1 is dropped. A smallest packet on a lane of longest 2.
    ∷ case 7
    (of_lane 64 [] (Some 0) (0xE5 ∷ 0x40 ∷ []) ++ (of_lane 64 [] (Some 0) (0xE5 ∷ 0x41 ∷ []) ++ (of_lane 64 [] (Some 0) (0xE1 ∷ 0x41 ∷ [])
    ++ (of_lane 64 [] (Some 0) (0xE7 ∷ replicate 7 0xFF) ++ of_lane 2 [] (Some 0) (0xE5 ∷ 0x02 ∷ 0xE0 ∷ [])))))
    ((0xE5 ∷ 0x40 ∷ []) ∷ (0 ∷ 0 ∷ 0 ∷ []) ∷ [] ∷ (0 ∷ 0 ∷ 2 ∷ []) ∷ [] ∷ (0 ∷ 0 ∷ 2 ∷ []) ∷ [] ∷ (0 ∷ 0 ∷ 8 ∷ []) ∷ (0xE5 ∷ 0x02 ∷ []) ∷ [] ∷ (1 ∷ 0 ∷ 0 ∷ []) ∷ [])
    -- Batches of both families; of an idle packet of each size, a cut one, unreadable ones, and one above the longest.
    ∷ case 8
    (batches
    ((packet₀ ++ short) ∷ (short ++ packet₀) ∷ (packet₀ ++ 0xE0 ∷ []) ∷ (short ++ 0xE1 ∷ 0x02 ∷ []) ∷ (0xE2 ∷ 0x00 ∷ 0x00 ∷ 0x04 ∷ []) ∷ take 3 short
    ∷ (0xE4 ∷ []) ∷ (0xE5 ∷ 0x01 ∷ []) ∷ (0xE5 ∷ 0x40 ∷ replicate 62 0x77) ∷ (0xE5 ∷ 0x41 ∷ replicate 63 0x77) ∷ [])
    ∷ [])
    ((0 ∷ 0 ∷ 14 ∷ 14 ∷ 14 ∷ 14 ∷ 14 ∷ 14 ∷ 0 ∷ 14 ∷ []) ∷ [])
    -- A batch of both written: the second frame has two octets of the packet, and fill.
    ∷ case 9 (sends (worked packet_lane) 2 (packet₀ ++ (0xE5 ∷ 0x0D ∷ replicate 11 0x77)))
    (((0xC0 ∷ 0x02 ∷ 0xA0 ∷ 0x6A ∷ 0x00 ∷ 0x1F ∷ 0x01 ∷ 0x00 ∷ 0x00 ∷ 0x00 ∷ 0x00 ∷ []) ++ packet₀ ++ (0xE5 ∷ 0x0D ∷ replicate 9 0x77))
    ∷ ((0xC0 ∷ 0x02 ∷ 0xA0 ∷ 0x6A ∷ 0x00 ∷ 0x1F ∷ 0x01 ∷ 0x01 ∷ 0x00 ∷ 0x00 ∷ 0x02 ∷ []) ++ (0x77 ∷ 0x77 ∷ replicate 19 0xE0)) ∷ [])
    -- "A packet lane's longest from 2."
    ∷ case 10 ((of_longest 1 ∷ of_longest 2 ∷ of_longest 8192 ∷ of_longest 8193 ∷ []) ∷ []) ((1 ∷ 3 ∷ 3 ∷ 1 ∷ []) ∷ []) ∷ []
