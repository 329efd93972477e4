-- The table of units, as docs/PROGRAMS.md has it.
use Rattle.std.specs.Prelude.{ℕ, ◌+◌, ◌*◌, Bool, true, false, Option, Some, None, List, ◌++◌, get_or, take, drop}
use Rattle.rules.specs.declared.Kind.{Kind}
use Rattle.rules.specs.declared.Kind.TheVariants.{Packets, Access}
use Rattle.rules.specs.declared.Family.{Family}
use Rattle.rules.specs.declared.Family.TheVariants.{Space, Encapsulation}
use Rattle.rules.specs.declared.Measure.{Measure}
use Rattle.rules.specs.declared.Measure.TheVariants.{Lacks, Packet, Idle, Unreadable}
use Rattle.rules.specs.declared.Setting.{Setting}
use Rattle.rules.specs.declared.Verdict.{Verdict}
use Rattle.rules.specs.Areas.{record_size}
use Rattle.rules.specs.Octets.{num, bits}
use Rattle.rules.specs.Packets.{measure}
use Rattle.rules.specs.Settings.{lane}
use Rattle.rules.specs.Listing.{text, decimal}
use Rattle.unpack_text.specs.declared.Tally.{Tally}
use Rattle.unpack_text.specs.Totals.{add, no_lane_tally}
use Rattle.unpack_text.specs.Lines.{firsts}
use Rattle.unit_table.specs.declared.Origin.{Origin}
use Rattle.unit_table.specs.declared.Row.{Row}

unfoldable pub table_title : List ℕ
table_title = text "lane,offset,length,frame,count,apid,sequence,span,family\n"

-- ---- where a read's units come from

unfoldable pub is_packets : Kind → Bool
is_packets Packets = true
is_packets Access = false

-- The units of frame k, after these totals, follow what its lane has. A frame that is not read has none.
unfoldable pub origin_of : Setting → Tally → ℕ → Verdict → Origin
origin_of s t k (Verdict.Refused n) = record { frame = k; base = 0; packets = false }
origin_of s t k Verdict.Idle = record { frame = k; base = 0; packets = false }
origin_of s t k (Verdict.Counted c) = record { frame = k; base = 0; packets = false }
origin_of s t k (Verdict.Read l) =
    record { frame = k; base = (get_or t.lanes l no_lane_tally).octets; packets = is_packets (lane s l).kind }
origin_of s t k (Verdict.Repeat c) = record { frame = k; base = 0; packets = false }

-- ---- a line

-- The number in n octets from octet `at` on.
unfoldable pub number_at : List ℕ → ℕ → ℕ → ℕ
number_at xs at n = num (take n (drop at xs))

-- "Its APID, the low 11 bits of octets 0 and 1, and its sequence count, the low 14 bits of octets 2 and 3": of the four octets, the 11 bits from bit 5
-- on, and the 14 from bit 18 on.
unfoldable pub apid : List ℕ → ℕ
apid xs = bits 4 5 11 xs

unfoldable pub sequence : List ℕ → ℕ
sequence xs = bits 4 18 14 xs

-- The family is what the measure says of a packet lane's unit.
unfoldable pub family_of : Bool → Measure → Option Family
family_of false m = None
family_of true (Lacks k) = None
family_of true (Packet f n) = Some f
family_of true (Idle n) = None
family_of true Unreadable = None

-- Unit i of a read, by its record (lane 1, virtual channel 1, map 1, service 1, start 4, length 4, count 8, span 4) and the unit octets.
unfoldable pub row_of : Origin → List ℕ → List ℕ → ℕ → Row
row_of g units records i =
    record {
      offset = add g.base (number_at records (record_size * i + 4) 4);
      frame = g.frame;
      lane = number_at records (record_size * i) 1;
      length = number_at records (record_size * i + 8) 4;
      count = number_at records (record_size * i + 12) 8;
      apid = apid (drop (number_at records (record_size * i + 4) 4) units);
      sequence = sequence (drop (number_at records (record_size * i + 4) 4) units);
      span = number_at records (record_size * i + 20) 4;
      family = family_of g.packets (measure (drop (number_at records (record_size * i + 4) 4) units));
    }

-- "Lane; the octet of the lane's file at which the unit begins; how many octets it has; ..."
unfoldable pub place_text : Row → List ℕ
place_text r = decimal r.lane ++ (text "," ++ decimal r.offset) ++ (text "," ++ decimal r.length)

-- "... number of the frame that finished it; the record's count; ..."
unfoldable pub frame_text : Row → List ℕ
frame_text r = text "," ++ decimal r.frame ++ (text "," ++ decimal r.count)

-- "... of a Space Packet its APID and its sequence count; of an encapsulation packet and of an access lane's unit two empty fields; ..."
unfoldable pub packet_text : Option Family → Row → List ℕ
packet_text (Some Space) r = text "," ++ decimal r.apid ++ (text "," ++ decimal r.sequence)
packet_text (Some Encapsulation) r = text ",,"
packet_text None r = text ",,"

-- "... the record's span; ..."
unfoldable pub span_text : Row → List ℕ
span_text r = text "," ++ decimal r.span

-- "... the family, `space` or `encapsulation`, and an empty field for an access lane's unit."
unfoldable pub family_text : Option Family → List ℕ
family_text (Some Space) = text ",space"
family_text (Some Encapsulation) = text ",encapsulation"
family_text None = text ","

unfoldable pub row_text : Row → List ℕ
row_text r = place_text r ++ frame_text r ++ packet_text r.family r ++ span_text r ++ family_text r.family ++ text "\n"

-- The lines of a read that gave n units.
unfoldable pub rows_text : Origin → ℕ → List ℕ → List ℕ → List ℕ
rows_text g n units records = firsts (λ (i : ℕ). row_text (row_of g units records i)) n
