-- Packets of two families: Space Packets, in the last paragraph of "The frame, octet by octet", and encapsulation packets (document 02, A5).
use Rattle.std.specs.Prelude.{ℕ, zero, suc, ◌+◌, ◌-◌, ◌*◌, ◌/◌, ◌%◌, cond, List, [], ◌∷◌, length, get_or, take, drop}
use Rattle.rules.specs.declared.Family.TheVariants.{Space, Encapsulation}
use Rattle.rules.specs.declared.Measure.{Measure}
use Rattle.rules.specs.declared.Measure.TheVariants.{Lacks, Packet, Idle, Unreadable}
use Rattle.rules.specs.Tests.{◌≤?◌, ◌<?◌, ◌=?◌}
use Rattle.rules.specs.Octets.{num}

-- ---- the first octet

-- "First bits 111, protocol 3 bits, length-of-length 2 bits."
abbrev pub first_bits : ℕ → ℕ
first_bits a = a / 32

abbrev pub protocol : ℕ → ℕ
protocol a = a / 4 % 8

abbrev pub length_of_length : ℕ → ℕ
length_of_length a = a % 4

-- ---- Space Packets

-- How many octets of one say its size: up to octet 5.
abbrev pub space_header : ℕ
space_header = 6

-- "A Space Packet ... is 7 plus the number in its octets 4 and 5 long. One whose low 11 bits of octets 0 and 1 are all ones is
-- idle." By octets 0, 1, 4 and 5.
unfoldable pub sized : ℕ → ℕ → ℕ → ℕ → Measure
sized a b d e = cond ((a * 256 + b) % 2048 =? 2047) (Idle (7 + (d * 256 + e))) (Packet Space (7 + (d * 256 + e)))

unfoldable pub space_packet : List ℕ → Measure
space_packet xs = sized (get_or xs 0 0) (get_or xs 1 0) (get_or xs 4 0) (get_or xs 5 0)

-- ---- encapsulation packets

-- "Headers have 1, 2, 4 or 8 octets, with a total length in 0, 1, 2 or 4 octets; the header length by length-of-length is a small printed table."
abbrev pub header_sizes : List ℕ
header_sizes = 1 ∷ 2 ∷ 4 ∷ 8 ∷ []

abbrev pub length_sizes : List ℕ
length_sizes = 0 ∷ 1 ∷ 2 ∷ 4 ∷ []

abbrev pub header_size : ℕ → ℕ
header_size l = get_or header_sizes l 0

abbrev pub length_size : ℕ → ℕ
length_size l = get_or length_sizes l 0

-- The total length stands in the last octets of the header (house reading).
unfoldable pub total_in : ℕ → List ℕ → ℕ
total_in l xs = num (take (length_size l) (drop (header_size l - length_size l) xs))

-- "... a total below its own header, is unreadable." "Protocol 000 is idle ..." By protocol, header and total.
unfoldable pub totalled : ℕ → ℕ → ℕ → Measure
totalled p h t = cond (t <? h) Unreadable (cond (p =? 0b000) (Idle t) (Packet Encapsulation t))

-- "Protocol 000 is idle at all four sizes": a header of one octet has no total, and is an idle packet by itself. "A one-octet header with another
-- protocol, ... is unreadable."
unfoldable pub alone : ℕ → Measure
alone p = cond (p =? 0b000) (Idle 1) Unreadable

-- What a header with this first octet says.
unfoldable pub encapsulated : ℕ → List ℕ → Measure
encapsulated a xs =
    cond (length_of_length a =? 0) (alone (protocol a))
    (totalled (protocol a) (header_size (length_of_length a)) (total_in (length_of_length a) xs))

-- ---- what measures a packet: "kind, size, or how many octets it still lacks"

-- Octets are lacking to the end of a header of h octets where n are there and these are fewer; all of it says m.
unfoldable pub headed : ℕ → ℕ → Measure → Measure
headed h n m = cond (n <? h) (Lacks (h - n)) m

-- "A Space Packet has first three bits 000"; of an encapsulation packet they are 111. "Any other first octet is unreadable." By the first octet.
unfoldable pub measured : ℕ → List ℕ → Measure
measured a xs =
    cond (first_bits a =? 0b000) (headed space_header (length xs) (space_packet xs))
    (cond (first_bits a =? 0b111) (headed (header_size (length_of_length a)) (length xs) (encapsulated a xs)) Unreadable)

-- What the packet is that begins with the first of these octets. Of none the first is lacking.
unfoldable pub measure : List ℕ → Measure
measure [] = Lacks 1
measure (a ∷ xs) = measured a (a ∷ xs)

-- ---- packets back to back

-- The packet at the front where it is whole and not idle, and what the octets after it give.
abbrev pub whole : Measure → List ℕ → (List ℕ → List (List ℕ)) → List (List ℕ)
whole (Lacks k) xs rest = []
whole (Packet f n) xs rest = cond (n ≤? length xs) (take n xs ∷ rest (drop n xs)) []
whole (Idle n) xs rest = []
whole Unreadable xs rest = []

-- At most n packets.
unfoldable pub packets_up_to : ℕ → List ℕ → List (List ℕ)
packets_up_to zero xs = []
packets_up_to (suc n) xs = whole (measure xs) xs (λ (ys : List ℕ). packets_up_to n ys)

-- The whole packets of both families, none idle, that stand back to back from the first octet on. There are no more than octets.
unfoldable pub packets : List ℕ → List (List ℕ)
packets xs = packets_up_to (length xs) xs
