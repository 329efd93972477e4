-- Areas that a caller lends: octets laid into one leave the others as they were.
use Rattle.std.specs.Prelude.{ℕ, ◌+◌, ◌*◌, List, [], ◌∷◌, ◌++◌, length, take, drop}

-- The area with these octets from octet `from` on, and all others as they were.
unfoldable pub laid : List ℕ → ℕ → List ℕ → List ℕ
laid area from xs = take from area ++ xs ++ drop (from + length xs) area

-- Octets back to back.
unfoldable pub joined : List (List ℕ) → List ℕ
joined [] = []
joined (x ∷ xs) = x ++ joined xs

-- ---- sizes: "Areas lent: held octets, 65,536, lane k's from 8,192k; units, at least 12,288; records, at least 9,600": with A2 of document 02,
-- "the record becomes 24 octets", and with A5 "the record area becomes 49,152 octets". "A packet batch is 1 to 32,768 octets."

abbrev pub held_size : ℕ
held_size = 65536

abbrev pub part_size : ℕ
part_size = 8192

abbrev pub units_size : ℕ
units_size = 12288

abbrev pub records_size : ℕ
records_size = 49152

abbrev pub record_size : ℕ
record_size = 24

abbrev pub batch_size : ℕ
batch_size = 32768

-- Lane k's part of the held area.
abbrev pub part : ℕ → List ℕ → List ℕ
part k area = take part_size (drop (part_size * k) area)
