-- The setting as a text: lines, words and numbers.
use Rattle.std.specs.Prelude.{ℕ, suc, ◌+◌, ◌-◌, ◌*◌, Bool, true, false, cond, not, ◌&&◌, ◌||◌, List, [], ◌∷◌, take, Option, Some, None}
use Rattle.std.specs.List.{slice_split}
use Rattle.std.specs.Str.{bytes_eq}
use Rattle.rules.specs.Tests.{◌≤?◌, ◌=?◌}
use Rattle.setting_text.specs.declared.Stop.{Stop}
use Rattle.setting_text.specs.declared.Stop.TheVariants as stop

-- ---- lines and words

-- "A blank is a space, a tab or a carriage return."
abbrev pub blank : ℕ → Bool
blank x = x =? 32 || x =? 9 || x =? 13

-- Whether an octet is a line feed, a `#`, a blank, something else than a blank, or a carriage return.
abbrev pub stops : Stop → ℕ → Bool
stops stop.Feed x = x =? 10
stops stop.Hash x = x =? 35
stops stop.Blank x = blank x
stops stop.Word x = not (blank x)
stops stop.Return x = x =? 13

-- How many octets stand before the first one of these; all, where there is none.
unfoldable pub until : (ℕ → Bool) → List ℕ → ℕ
until p [] = 0
until p (x ∷ xs) = cond (p x) 0 (suc (until p xs))

-- The pieces that stand between the octets that pass, empty ones too.
abbrev pub cut : (ℕ → Bool) → List ℕ → List (List ℕ)
cut = slice_split

-- The pieces that have an octet.
unfoldable pub full : List (List ℕ) → List (List ℕ)
full [] = []
full ([] ∷ ws) = full ws
full ((x ∷ w) ∷ ws) = (x ∷ w) ∷ full ws

-- "Lines end with a line feed or the text's end."
unfoldable pub lines : List ℕ → List (List ℕ)
lines t = cut (stops stop.Feed) t

-- "`#` starts a comment to the line's end."
unfoldable pub said : List ℕ → List ℕ
said l = take (until (stops stop.Hash) l) l

-- "Words are what stands between blanks."
unfoldable pub words : List ℕ → List (List ℕ)
words l = full (cut (stops stop.Blank) l)

-- The first word, and an empty one where there is none; no word is empty.
unfoldable pub first : List (List ℕ) → List ℕ
first [] = []
first (w ∷ ws) = w

-- The words after the first.
unfoldable pub others : List (List ℕ) → List (List ℕ)
others [] = []
others (w ∷ ws) = ws

-- Two words are the same.
abbrev pub same : List ℕ → List ℕ → Bool
same = bytes_eq

-- ---- "A number is one or more decimal digits (leading zeros are fine)."

abbrev pub digit : ℕ → Bool
digit x = 48 ≤? x && x ≤? 57

unfoldable pub digits : List ℕ → Bool
digits [] = true
digits (x ∷ xs) = digit x && digits xs

unfoldable pub is_number : List ℕ → Bool
is_number [] = false
is_number (x ∷ xs) = digits (x ∷ xs)

-- What digits stand for, after those that stand for n.
unfoldable pub value : ℕ → List ℕ → ℕ
value n [] = n
value n (x ∷ xs) = value (10 * n + (x - 48)) xs

-- The number, up to 65,535, that a word stands for, if any.
unfoldable pub number_of : List ℕ → Option ℕ
number_of w = cond (is_number w && value 0 w ≤? 65535) (Some (value 0 w)) None
