-- Which file a file is.
use Rattle.std.specs.Prelude.{ℕ, ◌/◌, ◌%◌, Bool, false, cond, ◌&&◌, ◌||◌, ℤ, pos, negsuc, Option, Some, None}
use Rattle.rules.specs.Tests.{◌=?◌}
use Rattle.files.specs.declared.Known.{Known}

-- A size, which the system gives with a sign: one below 0 counts as 0.
unfoldable pub whole_of : ℤ → ℕ
whole_of (pos n) = n
whole_of (negsuc n) = 0

-- Of the system's answer: device, inode, mode and size. No file has mode 0.
unfoldable pub known_of : ℕ → ℕ → ℕ → ℕ → Option Known
known_of device inode mode size = cond (mode =? 0) None (Some (record { id = record { device = device; inode = inode }; size = size; mode = mode }))

-- "Every input is known by device and inode": both are there, with one device and one inode.
unfoldable pub same_file : Option Known → Option Known → Bool
same_file None b = false
same_file (Some a) None = false
same_file (Some a) (Some b) = (a.id.device =? b.id.device) && (a.id.inode =? b.id.inode)

-- The four bits of the mode that say the kind: 8 is a regular file, 4 a folder.
unfoldable pub is_regular : Known → Bool
is_regular k = k.mode / 4096 % 16 =? 8

unfoldable pub is_folder : Known → Bool
is_folder k = k.mode / 4096 % 16 =? 4

-- There is a file, of which this is so.
abbrev pub is_there : (Known → Bool) → Option Known → Bool
is_there f None = false
is_there f (Some k) = f k

-- What is written to a regular file would go into an input, which is one of these two.
unfoldable pub spoils : Option Known → Option Known → Option Known → Bool
spoils k a b = is_there is_regular k && (same_file k a || same_file k b)
