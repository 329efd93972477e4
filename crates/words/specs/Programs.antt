-- What a word of a program's command line is.
use Rattle.std.specs.Prelude.{ℕ, List}
use Rattle.words.specs.declared.Word.{Word}
use Rattle.words.specs.declared.Program.{Program}
use Rattle.words.specs.declared.Program.TheVariants.{Unpack, Pack}
use Rattle.words.specs.UnpackWords
use Rattle.words.specs.PackWords

unfoldable pub word_to : Program → List ℕ → Word
word_to Unpack w = UnpackWords.word_of w
word_to Pack w = PackWords.word_of w
