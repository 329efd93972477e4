-- "The frame, octet by octet", in both directions.
use Rattle.std.specs.Prelude.{ℕ, ◌-◌, Bool, true, cond, List, [], ◌∷◌, ◌++◌, length, take, drop, Option, Some, None}
use Rattle.rules.specs.declared.Channel.{Channel}
use Rattle.rules.specs.declared.Lane.{Lane}
use Rattle.rules.specs.declared.Setting.{Setting}
use Rattle.rules.specs.Tests.{◌=?◌}
use Rattle.rules.specs.Octets.{be, num, Field, packed, flag, check_of, fields_of, field_in}
use Rattle.rules.specs.Settings.{ocf_octets, count_at, insert_at, field_at, zone_at, zone_for, ocf_at, check_at}

-- ---- fields in printed order

-- "Primary header: version 4 bits (1100), spacecraft 16, source-or-destination 1, virtual channel 6, map 4, end-of-header flag 1
-- (0 here); length 16 bits, the total less one; bypass 1 (0 sequence-controlled, 1 expedited), control command 1, spare 2 (00),
-- OCF flag 1, count length 3." How many bits each has.
abbrev pub header_widths : List ℕ
header_widths = 4 ∷ 16 ∷ 1 ∷ 6 ∷ 4 ∷ 1 ∷ 16 ∷ 1 ∷ 1 ∷ 2 ∷ 1 ∷ 3 ∷ []

-- "Construction rule 3 bits with UPID 5 bits, pointer 16 bits."
abbrev pub data_widths : List ℕ
data_widths = 3 ∷ 5 ∷ 16 ∷ []

-- ---- from a setting to octets

-- The same fields with what is written into them. "Control command is 0."
unfoldable pub header : Setting → Channel → Lane → List Field
header s c l =
    fields_of header_widths
    (0b1100 ∷ s.craft ∷ s.bit ∷ c.vc ∷ l.map ∷ 0 ∷ (s.length - 1) ∷ c.service ∷ 0 ∷ 0b00 ∷ flag c.ocf ∷ c.octets ∷ [])

-- "Then the count, n octets."
unfoldable pub primary : Setting → Channel → Lane → ℕ → List ℕ
primary s c l k = be 7 (packed (header s c l)) ++ be c.octets k

unfoldable pub data_header : ℕ → ℕ → ℕ → List ℕ
data_header rule upid pointer = be 3 (packed (fields_of data_widths (rule ∷ upid ∷ pointer ∷ [])))

-- "After it: insert zone, construction rule 3 bits with UPID 5 bits, pointer 16 bits, zone, OCF, frame check."
unfoldable pub body : Setting → Channel → Lane → ℕ → List ℕ → ℕ → ℕ → List ℕ → List ℕ → List ℕ
body s c l k insert rule pointer z ocf = primary s c l k ++ insert ++ data_header rule l.upid pointer ++ z ++ ocf

-- The check is "over all octets before it".
unfoldable pub checked : Setting → List ℕ → List ℕ
checked s xs = xs ++ cond s.check (be 2 (check_of xs)) []

-- ---- from octets to fields: each by its place in the list

abbrev pub version : List ℕ → ℕ
version f = field_in header_widths 0 f

abbrev pub craft : List ℕ → ℕ
craft f = field_in header_widths 1 f

abbrev pub source_bit : List ℕ → ℕ
source_bit f = field_in header_widths 2 f

abbrev pub vc : List ℕ → ℕ
vc f = field_in header_widths 3 f

abbrev pub map : List ℕ → ℕ
map f = field_in header_widths 4 f

abbrev pub end_of_header : List ℕ → ℕ
end_of_header f = field_in header_widths 5 f

abbrev pub length_field : List ℕ → ℕ
length_field f = field_in header_widths 6 f

abbrev pub bypass : List ℕ → ℕ
bypass f = field_in header_widths 7 f

abbrev pub command : List ℕ → ℕ
command f = field_in header_widths 8 f

abbrev pub spare : List ℕ → ℕ
spare f = field_in header_widths 9 f

abbrev pub ocf_flag : List ℕ → ℕ
ocf_flag f = field_in header_widths 10 f

abbrev pub count_length : List ℕ → ℕ
count_length f = field_in header_widths 11 f

unfoldable pub count_in : Channel → List ℕ → ℕ
count_in c f = num (take c.octets (drop count_at f))

unfoldable pub insert_in : Setting → Channel → List ℕ → List ℕ
insert_in s c f = take s.insert (drop (insert_at c) f)

-- What follows the insert zone.
abbrev pub data_field : Setting → Channel → List ℕ → List ℕ
data_field s c f = drop (field_at s c) f

unfoldable pub rule_in : Setting → Channel → List ℕ → ℕ
rule_in s c f = field_in data_widths 0 (data_field s c f)

unfoldable pub upid_in : Setting → Channel → List ℕ → ℕ
upid_in s c f = field_in data_widths 1 (data_field s c f)

unfoldable pub pointer_in : Setting → Channel → List ℕ → ℕ
pointer_in s c f = field_in data_widths 2 (data_field s c f)

unfoldable pub zone_in : Setting → Channel → List ℕ → List ℕ
zone_in s c f = take (zone_for s c (length f)) (drop (zone_at s c) f)

unfoldable pub ocf_in : Setting → Channel → List ℕ → List ℕ
ocf_in s c f = take (ocf_octets c) (drop (ocf_at s c (length f)) f)

unfoldable pub check_holds : Setting → List ℕ → Bool
check_holds s f = cond s.check (check_of (take (check_at (length f)) f) =? num (drop (check_at (length f)) f)) true

-- ---- pointers: "FFFF if none starts", "FFFF if the unit goes on"

abbrev pub pointer_to : Option ℕ → ℕ
pointer_to (Some i) = i
pointer_to None = 0xFFFF

unfoldable pub points_to : ℕ → Option ℕ
points_to p = cond (p =? 0xFFFF) None (Some p)
