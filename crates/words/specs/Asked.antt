-- What the words of a command line ask for.
use Rattle.std.specs.Prelude.{ℕ, ◌+◌, Bool, true, false, cond, ◌&&◌, List, set, replicate, Option, Some, None}
use Rattle.std.specs.Option.{option_or}
use Rattle.rules.specs.Listing.{text}
use Rattle.rules.specs.Tests.{◌<?◌, ◌≤?◌}
use Rattle.words.specs.Words.{is_word, is_option}
use Rattle.words.specs.declared.Word.{Word}
use Rattle.words.specs.declared.Word.TheVariants as word
use Rattle.words.specs.declared.Asked.{Asked}
use Rattle.words.specs.declared.Start.{Start}
use Rattle.words.specs.declared.Start.TheVariants as start

-- "Words that begin with two dashes are options, wherever they stand": what a word is that is no option of the program's own.
unfoldable pub word_of : List ℕ → Word
word_of w =
    cond (is_option w)
    (cond (is_word (text "--help") w) word.Help (cond (is_word (text "--version") w) word.Version word.Unknown))
    word.Name

unfoldable pub no_asked : Asked
no_asked =
    record {
      names = 0;
      places = replicate 3 0;
      unknown = None;
      first = false;
      second = false;
      help = false;
      version = false;
      without = replicate 63 false;
    }

-- The same but for the names.
abbrev pub with_names : Asked → ℕ → List ℕ → Asked
with_names a names places =
    record {
      names = names;
      places = places;
      unknown = a.unknown;
      first = a.first;
      second = a.second;
      help = a.help;
      version = a.version;
      without = a.without;
    }

-- The same but for the options.
abbrev pub with_options : Asked → Option ℕ → Bool → Bool → Bool → Bool → List Bool → Asked
with_options a unknown first second help version without =
    record {
      names = a.names;
      places = a.places;
      unknown = unknown;
      first = first;
      second = second;
      help = help;
      version = version;
      without = without;
    }

-- Names are counted up to four; the places of the first three are kept.
unfoldable pub named : Asked → ℕ → Asked
named a i = cond (a.names <? 3) (with_names a (a.names + 1) (set a.places a.names i)) (with_names a 4 a.places)

-- "`--without=V` leaves the frames of virtual channel V out", and "may stand several times".
unfoldable pub left_out : Asked → ℕ → Asked
left_out a v = with_options a a.unknown a.first a.second a.help a.version (set a.without v true)

-- With one word more, word i.
unfoldable pub asked_next : Asked → ℕ → Word → Asked
asked_next a i word.First = with_options a a.unknown true a.second a.help a.version a.without
asked_next a i word.Second = with_options a a.unknown a.first true a.help a.version a.without
asked_next a i (word.Without v) = left_out a v
asked_next a i word.Help = with_options a a.unknown a.first a.second true a.version a.without
asked_next a i word.Version = with_options a a.unknown a.first a.second a.help true a.without
asked_next a i word.Unknown = with_options a (option_or a.unknown (Some i)) a.first a.second a.help a.version a.without
asked_next a i word.Name = named a i

-- Where there is an option that there is not, it is told; else it is told whether there are as many names as there should be.
abbrev pub start_with : Option ℕ → Bool → Start
start_with (Some i) good = start.Unknown i
start_with None good = cond good start.Work start.Usage

-- Help, version, an option that there is not, and as many names as there should be: the first that applies.
unfoldable pub start_of : Asked → ℕ → ℕ → Start
start_of a least most =
    cond a.help start.Help
    (cond a.version start.Version (start_with a.unknown (least ≤? a.names && a.names ≤? most)))
