-- What a window is before its first read, how the first pass goes, and which words name the file of an access lane.
use Rattle.std.specs.Prelude.{Bool, true, false, Option, None}
use Rattle.rules.specs.declared.Kind.{Kind}
use Rattle.rules.specs.declared.Kind.TheVariants as kinds
use Rattle.rules.specs.declared.Setting.{Setting}
use Rattle.rules.specs.Settings.{lane}
use Rattle.intake.specs.declared.Window.{Window}
use Rattle.words.specs.declared.pack_start.Named.{Named}
use Rattle.words.specs.declared.pack_start.Named.TheVariants as names
use Rattle.pack.specs.declared.Writing.{Writing}

-- Nothing was read.
unfoldable pub fresh_window : Window
fresh_window = record { have = 0; at = 0; good = true }

-- "Every file is looked through, file after file, before the first frame is written."
unfoldable pub look_way : Option Writing
look_way = None

-- "The next word after the LANE=FILE of an access lane."
unfoldable pub is_access : Kind → Bool
is_access kinds.Packets = false
is_access kinds.Access = true

unfoldable pub is_units : Setting → Named → Bool
is_units s (names.ToLane l) = is_access (lane s l).kind
is_units s names.Lengths = false
is_units s names.Insert = false
is_units s names.Ocf = false
is_units s names.Option = false
is_units s names.Other = false
