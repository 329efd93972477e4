-- What a word of pack's command line is, and what a word after the setting names.
use Rattle.std.specs.Prelude.{ℕ, ◌-◌, cond, List, [], ◌∷◌, get_or}
use Rattle.rules.specs.Tests.{◌≤?◌, ◌<?◌, ◌=?◌, all}
use Rattle.rules.specs.Listing.{text}
use Rattle.words.specs.Words.{begins, is_word, is_option}
use Rattle.words.specs.Asked.{word_of as other_word}
use Rattle.words.specs.declared.Word.{Word}
use Rattle.words.specs.declared.Word.TheVariants as word
use Rattle.words.specs.declared.pack_start.Named.{Named}
use Rattle.words.specs.declared.pack_start.Named.TheVariants as names

-- "Words that begin with two dashes are options, wherever they stand, and count for nothing else."
unfoldable pub word_of : List ℕ → Word
word_of w = cond (is_word (text "--interleave") w) word.First (other_word w)

-- One digit that is the number of a lane, then =. Octet 48 is the digit 0, 61 is =.
unfoldable pub lane : ℕ → List ℕ → Named
lane numbered xs =
    cond (all (get_or xs 1 0 =? 61 ∷ 48 ≤? get_or xs 0 0 ∷ (get_or xs 0 0 - 48) <? numbered ∷ [])) (names.ToLane (get_or xs 0 0 - 48)) names.Other

unfoldable pub name_of : ℕ → List ℕ → Named
name_of numbered xs =
    cond (is_option xs) names.Option
    (cond (begins (text "lengths=") xs) names.Lengths
    (cond (begins (text "insert=") xs) names.Insert
    (cond (begins (text "ocf=") xs) names.Ocf (lane numbered xs))))
