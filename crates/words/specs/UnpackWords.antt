-- What a word of unpack's command line is.
use Rattle.std.specs.Prelude.{ℕ, ◌+◌, ◌*◌, ◌-◌, Bool, cond, ◌&&◌, List, [], ◌∷◌, drop}
use Rattle.rules.specs.Listing.{text}
use Rattle.rules.specs.Tests.{◌≤?◌}
use Rattle.words.specs.Words.{begins, is_word}
use Rattle.words.specs.Asked.{word_of as other_word}
use Rattle.words.specs.declared.Word.{Word}
use Rattle.words.specs.declared.Word.TheVariants as word

-- Octets 48 to 57 are the digits 0 to 9.
unfoldable pub is_digit : ℕ → Bool
is_digit x = 48 ≤? x && x ≤? 57

-- The number that two digits are.
abbrev pub number : ℕ → ℕ → ℕ
number x y = (x - 48) * 10 + (y - 48)

-- The option with a virtual channel of two digits, "0 to 62"; otherwise it is no option.
unfoldable pub channel_word : ℕ → ℕ → Word
channel_word x y = cond (is_digit x && is_digit y && number x y ≤? 62) (word.Without (number x y)) word.Unknown

-- "V is one or two decimal digits": what stands behind `--without=`. One digit is read with a 0 before it.
unfoldable pub without_word : List ℕ → Word
without_word [] = word.Unknown
without_word (y ∷ []) = channel_word 48 y
without_word (x ∷ y ∷ []) = channel_word x y
without_word (x ∷ y ∷ z ∷ zs) = word.Unknown

-- "Words that begin with two dashes are options, wherever they stand; the others are the three names in order." `--without=` has ten octets.
unfoldable pub word_of : List ℕ → Word
word_of w =
    cond (is_word (text "--totals") w) word.First
    (cond (is_word (text "--units") w) word.Second
    (cond (begins (text "--without=") w) (without_word (drop 10 w)) (other_word w)))
