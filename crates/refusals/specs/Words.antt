-- Refusals in document 01's words, and what is said of them.
use Rattle.std.specs.Prelude.{ℕ, ◌+◌, ◌/◌, ◌%◌, Bool, cond, ◌&&◌, List, [], ◌∷◌, ◌++◌, get_or}
use Rattle.rules.specs.declared.Reader.{Reader}
use Rattle.rules.specs.Tests.{◌=?◌, ◌<?◌}
use Rattle.rules.specs.Listing.{text, decimal}
use Rattle.rules.specs.Frames.{version, craft, vc}
use Rattle.unpack_text.specs.Lines.{firsts, places_text, last_line}
use Rattle.refusals.specs.declared.First.{First}
use Rattle.refusals.specs.declared.Totals.{Totals}
use Rattle.refusals.specs.Counts.{commonest}

-- "Refusal numbers", 1 to 12: the table's words without its remarks. Number 0 is none.
abbrev pub table : List (List ℕ)
table =
    []
    ∷ text "setting or state not valid"
    ∷ text "an area is too short"
    ∷ text "frame is not F octets"
    ∷ text "frame check differs"
    ∷ text "version is not 1100"
    ∷ text "spacecraft or source-or-destination bit differs"
    ∷ text "end-of-header flag is 1"
    ∷ text "length field is not F - 1, spare bits not 00, or control command with bypass 0"
    ∷ text "virtual channel not 63 and, with this service, not listed"
    ∷ text "count length not the channel's"
    ∷ text "OCF flag not the channel's"
    ∷ text "map in a lane of that channel, command bit 0, and rule or UPID not that lane's, or pointer neither below Z nor FFFF"
    ∷ []

unfoldable pub words_of : ℕ → List ℕ
words_of n = get_or table n []

-- Number n, with which m frames were refused.
unfoldable pub naming : ℕ → ℕ → List ℕ
naming n m = text "refused " ++ decimal n ++ (text " frames " ++ decimal m) ++ text ": " ++ words_of n

-- "A number that did not occur has no line."
unfoldable pub refused_line : ℕ → ℕ → List ℕ
refused_line n m = cond (m =? 0) [] (naming n m ++ text "\n")

-- "A line for each refusal number that occurred, in order."
unfoldable pub refused_lines : List ℕ → List ℕ
refused_lines counts = firsts (λ (i : ℕ). refused_line (i + 1) (get_or counts (i + 1) 0)) 12

-- All totals: lanes and channels, refusals, and one line for all.
unfoldable pub totals_text : Reader → Totals → List ℕ
totals_text r t =
    places_text r t.tally
    ++ refused_lines t.refusals.counts
    ++ last_line r t.tally

-- ---- when little was read

unfoldable pub common_text : List ℕ → List ℕ
common_text counts = text "most often " ++ naming (commonest counts 13) (get_or counts (commonest counts 13) 0)

-- A number below 16 in four binary digits.
unfoldable pub binary : ℕ → List ℕ
binary v = (48 + v / 8 % 2) ∷ (48 + v / 4 % 2) ∷ (48 + v / 2 % 2) ∷ (48 + v % 2) ∷ []

unfoldable pub version_text : ℕ → List ℕ
version_text v = text ": version " ++ binary v

unfoldable pub source_text : ℕ → ℕ → List ℕ
source_text c v = text ", spacecraft " ++ decimal c ++ (text ", virtual channel " ++ decimal v)

-- What a header says, beside the setting's spacecraft.
unfoldable pub head_text : List ℕ → ℕ → List ℕ
head_text front own =
    version_text (version front) ++ source_text (craft front) (vc front) ++ (text "; the setting's spacecraft is " ++ decimal own)

-- "Where it has fewer than four octets, how many."
unfoldable pub first_text : First → ℕ → List ℕ
first_text p own =
    text "the first refused is frame " ++ decimal p.frame
    ++ cond (p.octets <? 4) (text ": its length is " ++ decimal p.octets) (head_text p.front own)

-- "Where that frame begins with the octets 1A CF FC 1D."
unfoldable pub marked : List ℕ → Bool
marked front = get_or front 0 0 =? 0x1A && get_or front 1 0 =? 0xCF && get_or front 2 0 =? 0xFC && get_or front 3 0 =? 0x1D
