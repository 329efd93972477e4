-- What a file with a setting is.
use Rattle.std.specs.Prelude.{ℕ, cond, List, length, take, Option, Some, None, Result, Ok, Err}
use Rattle.rules.specs.Tests.{◌≤?◌}
use Rattle.rules.specs.declared.Setting.{Setting}
use Rattle.setting_text.specs.declared.Finding.{Finding}
use Rattle.setting_text.specs.Facts.{parsed}
use Rattle.setting_file.specs.declared.Wrong.{Wrong}
use Rattle.setting_file.specs.declared.Wrong.TheVariants.{Unread, TooLong, Text}

-- What is wrong with a text is wrong with its file.
abbrev pub parsed_to : Result Setting Finding → Result Setting Wrong
parsed_to (Ok s) = Ok s
parsed_to (Err f) = Err (Text f)

-- "At most 65,536 octets are read from a file, and a longer one is refused."
abbrev pub text_found : List ℕ → Result Setting Wrong
text_found xs = cond (length xs ≤? 65536) (parsed_to (parsed xs)) (Err TooLong)

-- The setting of a file of which so many octets were read into the area, or of one that could not be read.
abbrev pub judged : Option ℕ → List ℕ → Result Setting Wrong
judged (Some n) area = text_found (take n area)
judged None area = Err Unread
