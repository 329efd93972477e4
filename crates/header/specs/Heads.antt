-- The fields of a frame, all at once.
use Rattle.std.specs.Prelude.{ℕ, List, [], ◌∷◌}
use Rattle.header.specs.declared.Head.{Head}
use Rattle.header.specs.declared.Data.{Data}
use Rattle.rules.specs.Octets.{be, Field, packed, fields_of, field_in}
use Rattle.rules.specs.Frames.{header_widths, data_widths, version, craft, source_bit, vc, map, end_of_header, length_field, bypass, command, spare, ocf_flag, count_length}

-- ---- from octets

-- The primary header's, in printed order.
unfoldable pub head_of : List ℕ → Head
head_of f =
    record {
      version = version f;
      craft = craft f;
      bit = source_bit f;
      vc = vc f;
      map = map f;
      ending = end_of_header f;
      length = length_field f;
      bypass = bypass f;
      command = command f;
      spare = spare f;
      ocf = ocf_flag f;
      octets = count_length f;
    }

-- The data field's, of the octets from its first on.
unfoldable pub data_of : List ℕ → Data
data_of d = record { rule = field_in data_widths 0 d; upid = field_in data_widths 1 d; pointer = field_in data_widths 2 d }

-- ---- to octets

-- The same fields with their widths.
unfoldable pub head_fields : Head → List Field
head_fields h =
    fields_of header_widths
    (h.version
    ∷ h.craft
    ∷ h.bit
    ∷ h.vc
    ∷ h.map
    ∷ h.ending
    ∷ h.length
    ∷ h.bypass
    ∷ h.command
    ∷ h.spare
    ∷ h.ocf
    ∷ h.octets ∷ [])

unfoldable pub data_fields : Data → List Field
data_fields d = fields_of data_widths (d.rule ∷ d.upid ∷ d.pointer ∷ [])

-- The octets that they make.
unfoldable pub head_octets : Head → List ℕ
head_octets h = be 7 (packed (head_fields h))

unfoldable pub data_octets : Data → List ℕ
data_octets d = be 3 (packed (data_fields d))
