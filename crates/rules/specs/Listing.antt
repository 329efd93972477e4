-- "Worked frames", its end: what the listing program prints.
use Rattle.std.specs.Prelude.{ℕ, zero, suc, ◌+◌, ◌/◌, ◌%◌, cond, List, [], ◌∷◌, ◌++◌, length, take, drop, replicate}
use Prim.Native.String.{String}
use Prim.Native.Char.{code}
use Rattle.rules.specs.declared.Reader.{Reader}
use Rattle.rules.specs.declared.Class.{Class}
use Rattle.rules.specs.declared.Class.TheVariants.{Idle, Counted, Read, Repeat, Refused}
use Rattle.rules.specs.declared.Answer.{Answer}
use Rattle.rules.specs.Tests.{◌<?◌, ◌=?◌}
use Rattle.rules.specs.Calls.{set_up_reader, Got, read}
use Rattle.rules.specs.Worked.{worked, packet_lane}
use Rattle.rules.specs.Areas.{held_size, records_size, units_size}

-- ---- text

-- The octets of a text of plain characters.
unfoldable pub text : String → List ℕ
text String.[] = []
text (String.◌∷◌ c s) = code c ∷ text s

-- A number's digits, n of them at most.
unfoldable pub digits : ℕ → ℕ → List ℕ
digits zero v = []
digits (suc n) v = cond (v <? 10) ((48 + v) ∷ []) (digits n (v / 10) ++ (48 + v % 10) ∷ [])

-- Twenty digits are enough for every number here.
unfoldable pub decimal : ℕ → List ℕ
decimal v = digits 20 v

-- ---- "Fields: frame number; idle, counted, read or refused; units (the refusal number if refused); missing (0 if refused)." And repeat
-- (document 02, A3).

unfoldable pub word : Class → List ℕ
word Idle = text "idle"
word Counted = text "counted"
word Read = text "read"
word Repeat = text "repeat"
word (Refused n) = text "refused"

-- Units, or the refusal number.
unfoldable pub amount : Class → ℕ → ℕ
amount Idle units = units
amount Counted units = units
amount Read units = units
amount Repeat units = units
amount (Refused n) units = n

unfoldable pub line : ℕ → Answer → List ℕ
line k a =
    decimal k ++ text " " ++ word a.class ++ text " " ++ decimal (amount a.class a.units) ++ text " " ++ decimal a.missing ++ text "\n"

-- ---- the program: input cut into frames of F octets, "a short last frame is refused 3"

-- Line k and those after it, n at most, of what is left of the input.
unfoldable pub lines : ℕ → ℕ → Reader → List ℕ → List ℕ → List ℕ → List ℕ → List ℕ
lines zero k r h u c input = []
lines (suc n) k r h u c input =
    let o : Got = read r (take r.setting.length input) h u c in
    let rest : List ℕ = lines n (k + 1) o.taken.state o.held_area o.unit_area o.record_area (drop r.setting.length input) in
    cond (length input =? 0) [] (line k o.taken.answer ++ rest)

-- "A listing program reads frames of this setting." "Empty input prints nothing."
unfoldable pub listing : List ℕ → List ℕ
listing input =
    cond (length input =? 0) []
    (text "frame answer units missing\n"
    ++ lines (length input) 0 (set_up_reader (worked packet_lane)).state (replicate held_size 0) (replicate units_size 0) (replicate records_size 0) input)
