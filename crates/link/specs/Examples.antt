-- Runs that the demand is tried on: some that meet its premises, and one with as many frames gone as there are counts, less one.
use Rattle.std.specs.Prelude.{ℕ, ◌-◌, false, List, [], ◌∷◌, ◌++◌, map, drop, set, take, replicate}
use Rattle.rules.specs.declared.Kind.TheVariants.{Packets, Access}
use Rattle.rules.specs.declared.Setting.{Setting}
use Rattle.rules.specs.Worked.{small}
use Rattle.rules.specs.Errors.{paired, packet_frame}
use Rattle.rules.specs.Calls.{Got}
use Rattle.link.specs.Link.{Call, Frame, place_of, Lent, Event, Writes, Copy, Stray, Filed, handed_out}
use Rattle.link.specs.Due.{due}
use Rattle.link.specs.Demand.{frames_of, reads_of}
use Rattle.rules.specs.Areas.{held_size, records_size, units_size}

-- A packet of n octets, of which all after the header are x.
unfoldable pub packet : ℕ → ℕ → List ℕ
packet n x = 0x00 ∷ 0x01 ∷ 0xC0 ∷ 0x00 ∷ 0x00 ∷ (n - 7) ∷ replicate (n - 6) x

-- Encapsulation packets of n octets, of which all after the header are x: with a header of eight octets, and with one of two.
unfoldable pub wide : ℕ → ℕ → List ℕ
wide n x = 0xE7 ∷ 0x00 ∷ 0x00 ∷ 0x00 ∷ 0x00 ∷ 0x00 ∷ 0x00 ∷ n ∷ replicate (n - 8) x

unfoldable pub slim : ℕ → ℕ → List ℕ
slim n x = 0xE5 ∷ n ∷ replicate (n - 2) x

-- Areas full of x.
unfoldable pub full : ℕ → Lent
full x = record { units = replicate units_size x; records = replicate records_size x }

-- Areas longer than asked for.
unfoldable pub roomy : Lent
roomy = record { units = replicate 12300 0x33; records = replicate 49200 0x33 }

unfoldable pub call : ℕ → List ℕ → Call
call l b = record { lane = l; batch = b; insert = []; ocf = []; area = replicate 40 0x55 }

-- What happens, part by part.
unfoldable pub row : List (List (Event Call)) → List (Event Call)
row [] = []
row (e ∷ es) = e ++ row es

-- Octet strings that are no copy of a frame.
unfoldable pub strings : List (List ℕ) → List (Event Call)
strings [] = []
strings (x ∷ xs) = Stray x (full 0x44) ∷ strings xs

-- A copy of the frame that is sent on lane l's channel.
abbrev pub again : Setting → ℕ → List (Event Call)
again s l = Copy (place_of s l) (full 0x33) ∷ []

-- A frame is sent, and a copy of it arrives; or none does, and these octet strings arrive in its place.
abbrev pub keep : Setting → ℕ → List ℕ → List (Event Call)
keep s l b = Writes (call l b) ∷ again s l

abbrev pub lose : ℕ → List ℕ → List (List ℕ) → List (Event Call)
lose l b xs = Writes (call l b) ∷ strings xs

-- A frame of lane 0 with this count whose first octet is another: its version is not 1100.
abbrev pub damaged : ℕ → List ℕ → List ℕ
damaged k z = set (packet_frame 5 k 0xFFFF z) 0 0x40

-- ---- a run of the setting `paired`: lanes 0 and 1 carry packets on one channel, lane 2 access units of up to 42 octets on the same
-- virtual channel with the other service; Z = 21

abbrev pub a₀ : List ℕ
a₀ = packet 42 0xA0

abbrev pub b₀ : List ℕ
b₀ = packet 42 0xB0

-- Three frames: the pointer of the second is FFFF.
abbrev pub d₀ : List ℕ
d₀ = packet 63 0xD0

abbrev pub c₁ : List ℕ
c₁ = packet 10 0xC1

-- Two frames, and both families: three octets of the second packet's header are in the first.
abbrev pub e₁ : List ℕ
e₁ = packet 18 0xE1 ++ wide 10 0xE2 ++ packet 14 0xE3

-- One frame with two packets, one of each family.
abbrev pub f₁ : List ℕ
f₁ = packet 10 0xF1 ++ slim 11 0xF2

abbrev pub u₂ : List ℕ
u₂ = replicate 30 0x12

-- At the longest.
abbrev pub v₂ : List ℕ
v₂ = replicate 42 0x22

abbrev pub w₂ : List ℕ
w₂ = replicate 21 0x32

-- The run's end, which is a run of its own too.
unfoldable pub closing : List (Event Call)
closing =
    row
    -- A frame of lane 1 is gone: two of its packets, and one that lane 0 has begun. The octets in its place are nothing to the unit that
    -- lane 2 has begun, which is as long as may be.
    (keep paired 0 a₀
    ∷ keep paired 2 v₂
    ∷ lose 1 e₁ ((0xC0 ∷ 0x02 ∷ []) ∷ replicate 32 0x00 ∷ [])
    ∷ keep paired 2 v₂
    ∷ keep paired 1 e₁
    ∷ keep paired 0 a₀
    -- Two packets of one frame, of which three copies come.
    ∷ keep paired 1 f₁
    ∷ again paired 1
    ∷ again paired 1
    -- Copies of a frame that has begun a packet: right after it, and after a frame of the other service, which has copies too.
    ∷ keep paired 0 d₀
    ∷ again paired 0
    ∷ keep paired 2 v₂
    ∷ again paired 0
    ∷ again paired 2
    -- The first octets of one unit and the last of another; what stands in the places of the frames between is nothing to the packet that lane 0
    -- has begun.
    ∷ lose 2 v₂ ((0xC0 ∷ 0x02 ∷ []) ∷ [])
    ∷ lose 2 u₂ (replicate 32 0x00 ∷ [])
    -- Of the packet's second frame the first copy is gone, and two come late, after a frame of the other service. The last batch is unfinished.
    ∷ lose 0 d₀ (damaged 6 (take 21 (drop 21 d₀)) ∷ [])
    ∷ keep paired 2 u₂
    ∷ again paired 0
    ∷ again paired 0
    ∷ keep paired 0 d₀
    ∷ keep paired 0 a₀
    ∷ [])

unfoldable pub calls : List (Event Call)
calls =
    row
    -- The first half of one packet and the second half of another of the same length, and a frame of the neighbor's map between:
    -- where a gap is overlooked they make a packet. In the places of the two frames gone, octets that have their counts.
    (keep paired 0 a₀
    ∷ lose 0 a₀ (damaged 1 (drop 21 a₀) ∷ [])
    ∷ lose 0 b₀ (damaged 2 (take 21 b₀) ∷ [])
    ∷ keep paired 1 c₁
    ∷ keep paired 0 b₀
    -- A packet and a unit with the other lanes' frames between theirs, and after two frames octets that have the next count.
    ∷ keep paired 0 d₀
    ∷ strings (damaged 6 (drop 42 d₀) ∷ [])
    ∷ keep paired 2 u₂
    ∷ keep paired 0 d₀
    ∷ strings ((0xC0 ∷ 0x02 ∷ []) ∷ damaged 7 (drop 42 d₀) ∷ [])
    ∷ keep paired 1 c₁
    ∷ keep paired 2 u₂
    ∷ keep paired 0 d₀
    -- The begin of a unit is gone; that is the other service's loss.
    ∷ lose 2 v₂ []
    ∷ keep paired 1 e₁
    ∷ keep paired 2 v₂
    ∷ keep paired 1 e₁
    ∷ keep paired 2 w₂
    ∷ closing
    ∷ [])

-- A unit with its count and its span before it.
abbrev pub told : Filed → List ℕ
told u = u.count ∷ u.span ∷ u.octets

-- What is due on lanes 0, 1, 2 and on 3, which is none, by hand. Lanes 0 and 1 share their counts.
unfoldable pub wanted : List (List (List ℕ))
wanted =
    ((8 ∷ 3 ∷ d₀) ∷ (18 ∷ 3 ∷ d₀) ∷ [])
    ∷ ((3 ∷ 1 ∷ c₁) ∷ (7 ∷ 1 ∷ c₁) ∷ (9 ∷ 1 ∷ packet 18 0xE1) ∷ (10 ∷ 2 ∷ wide 10 0xE2) ∷ (10 ∷ 1 ∷ packet 14 0xE3) ∷ (13 ∷ 1 ∷ packet 14 0xE3)
    ∷ (15 ∷ 1 ∷ packet 10 0xF1) ∷ (15 ∷ 1 ∷ slim 11 0xF2) ∷ [])
    ∷ ((1 ∷ 2 ∷ u₂) ∷ (4 ∷ 1 ∷ w₂) ∷ (6 ∷ 2 ∷ v₂) ∷ []) ∷ [] ∷ []

-- ---- a run of `paired` in which nothing is gone, though copies are, and every batch is finished

unfoldable pub unharmed : List (Event Call)
unharmed =
    row
    (keep paired 0 a₀ ∷ again paired 0 ∷ keep paired 2 v₂ ∷ keep paired 1 f₁ ∷ lose 0 a₀ [] ∷ keep paired 2 v₂ ∷ again paired 0 ∷ keep paired 0 b₀
    ∷ keep paired 0 b₀ ∷ again paired 0 ∷ [])

-- ---- a long run

-- Two channels, with counts of one octet and of two; Z is 21 and 20. Lanes 0 and 1 carry packets on the one and on the other, lanes 2 and 3
-- access units.
unfoldable pub mixed : Setting
mixed =
    small false (record { vc = 3; service = 0; octets = 1; ocf = false } ∷ record { vc = 4; service = 0; octets = 2; ocf = false } ∷ [])
    (record { channel = 0; map = 5; kind = Packets; longest = 64; upid = 0 } ∷ record { channel = 1; map = 5; kind = Packets; longest = 64; upid = 0 }
    ∷ record { channel = 0; map = 6; kind = Access; longest = 42; upid = 5 } ∷ record { channel = 1; map = 6; kind = Access; longest = 42; upid = 5 } ∷ [])

-- n frames of an access lane are gone, with a unit of one octet each.
abbrev pub gone : ℕ → ℕ → List (Event Call)
gone n l = replicate n (Writes (call l (0x77 ∷ [])))

-- A packet of one frame, and two of two frames of lane 1.
abbrev pub g₀ : List ℕ
g₀ = packet 20 0x77

abbrev pub h₁ : List ℕ
h₁ = packet 40 0xA1

abbrev pub i₁ : List ℕ
i₁ = packet 40 0xB1

unfoldable pub long : List (Event Call)
long =
    row
    -- Before the first kept frame of the first channel more are gone than there are counts. It has count 255, areas longer than asked for, and
    -- octets after it.
    (gone 511 2
    ∷ (Writes (call 0 g₀) ∷ Copy 0 roomy ∷ strings (replicate 32 0x00 ∷ []))
    -- Over the wrap: the first half of one packet has count 253, the second half of another count 1.
    ∷ gone 253 2
    ∷ keep mixed 0 a₀
    ∷ lose 0 a₀ []
    ∷ lose 2 w₂ []
    ∷ lose 0 b₀ []
    ∷ keep mixed 0 b₀
    -- Nothing is gone over the wrap: the two frames of a packet have counts 255 and 0, and of each a second copy comes.
    ∷ gone 253 2
    ∷ keep mixed 0 a₀
    ∷ again mixed 0
    ∷ keep mixed 0 a₀
    ∷ again mixed 0
    -- As many are gone as may be, 254: the next frame has count 255.
    ∷ gone 254 2
    ∷ keep mixed 0 g₀
    -- With counts of two octets 256 frames gone are seen: the first half of one packet and the second half of another.
    ∷ keep mixed 1 h₁
    ∷ lose 1 h₁ []
    ∷ gone 254 3
    ∷ lose 1 i₁ []
    ∷ keep mixed 1 i₁
    -- After the last kept frame of the first channel more are gone than there are counts.
    ∷ gone 300 2
    ∷ [])

-- What is due on lanes 0 and 1, by hand.
unfoldable pub wanted_long : List (List (List ℕ))
wanted_long = ((255 ∷ 1 ∷ g₀) ∷ (0 ∷ 2 ∷ a₀) ∷ (255 ∷ 1 ∷ g₀) ∷ []) ∷ [] ∷ []

-- ---- as many frames gone as there are counts, less one

-- The first half of a packet of 42 octets, n + 2 frames gone, and the second and third frame of a packet of 63.
unfoldable pub gap_of : ℕ → List (Event Call)
gap_of n = row (keep mixed 0 a₀ ∷ lose 0 a₀ [] ∷ gone n 2 ∷ lose 0 d₀ [] ∷ keep mixed 0 d₀ ∷ keep mixed 0 d₀ ∷ [])

-- ---- what a run of a setting gives

-- A held area with anything in it.
abbrev pub held : List ℕ
held = replicate held_size 0x66

-- What reads hand out on some lanes, and what is due there.
unfoldable pub on_each : List ℕ → List Got → List (List (List ℕ))
on_each [] os = []
on_each (l ∷ ls) os = map told (handed_out l os) ∷ on_each ls os

unfoldable pub got : Setting → List ℕ → List (Event Call) → List (List (List ℕ))
got s ls xs = on_each ls (reads_of s held xs)

unfoldable pub due_on_each : List ℕ → List Frame → List (List (List ℕ))
due_on_each [] fs = []
due_on_each (l ∷ ls) fs = map told (due l [] fs) ∷ due_on_each ls fs

unfoldable pub owed : Setting → List ℕ → List (Event Call) → List (List (List ℕ))
owed s ls xs = due_on_each ls (frames_of s xs)

-- The lanes of `paired` and a number that is none; the packet lanes of `mixed`.
abbrev pub paired_lanes : List ℕ
paired_lanes = 0 ∷ 1 ∷ 2 ∷ 3 ∷ []

abbrev pub mixed_lanes : List ℕ
mixed_lanes = 0 ∷ 1 ∷ []
