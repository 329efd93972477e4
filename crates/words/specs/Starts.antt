-- What unpack decides beside its frames.
use Rattle.std.specs.Prelude.{ℕ, ◌-◌, ◌||◌, cond, List, length, get_or, Option, Some, None, Result, Ok, Err, ⊤}
use Rattle.rules.specs.Tests.{◌=?◌, ◌<?◌}
use Rattle.words.specs.declared.Asked.{Asked}
use Rattle.files.specs.declared.Known.{Known}
use Rattle.files.specs.Known.{is_there, is_folder}
use Rattle.words.specs.declared.unpack_start.BadPrefix.{BadPrefix}
use Rattle.words.specs.declared.unpack_start.BadPrefix.TheVariants.{Empty, Folder}
use Rattle.words.specs.declared.unpack_start.Little.{Little}
use Rattle.words.specs.declared.unpack_start.Little.TheVariants.{Nothing, Fewer}

-- "An empty prefix, a prefix that ends in a folder, are refused": one that ends in `/`, or names a folder itself.
unfoldable pub prefix_of : List ℕ → Option Known → Result ⊤ BadPrefix
prefix_of xs k =
    cond (length xs =? 0) (Err Empty) (cond (get_or xs (length xs - 1) 0 =? 47 || is_there is_folder k) (Err Folder) (Ok tt))

-- The last of "the three names in order"; none where there are not three.
unfoldable pub prefix_at : Asked → Option ℕ
prefix_at a = cond (a.names =? 3) (Some (get_or a.places 2 0)) None

-- "When nothing was read, or more frames were refused than read."
unfoldable pub little_of : ℕ → ℕ → Option Little
little_of read refused = cond (read =? 0) (Some Nothing) (cond (read <? refused) (Some Fewer) None)
