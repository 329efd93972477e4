-- `unpack::with_words`: the setting of a file is valid.
use mathlib.Core.Path.{sym, ◌∙◌}
use Rattle.setting_file.proofs.Files.{judged_good}
use Rattle.unpack.proofs.with_words.Goals as goal

pub all_listed-requires : goal.all_listed-requires
all_listed-requires c = let l = c.load_from-l in judged_good _ l.result.filled _ (sym l.ensures ∙ c.in-Ok.is)

pub with_setting-requires : goal.with_setting-requires
with_setting-requires c = let l = c.load_from-l in judged_good _ l.result.filled _ (sym l.ensures ∙ c.in-Ok.is)
