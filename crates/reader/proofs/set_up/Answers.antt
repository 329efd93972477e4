-- `reader::set_up` meets its contract: the setting's rule decides which of the two answers it is.
use mathlib.Core.Path.{sym, ◌∙◌}
use Rattle.rules.specs.Calls.{set_up_reader}
use Rattle.rules.proofs.Promises.{reader-starts-by}
use Rattle.reader.proofs.set_up.Goals as goal

pub returns-then-setting_ok : goal.returns-then-setting_ok
unfolding set_up_reader
returns-then-setting_ok c = reader-starts-by _ _ (rw (sym c.setting_ok.ensures ∙ c.if-setting_ok.true, c.fresh_reader.ensures))

pub returns-else-setting_ok : goal.returns-else-setting_ok
unfolding set_up_reader
returns-else-setting_ok c = reader-starts-by _ _ (rw (sym c.setting_ok.ensures ∙ c.if-setting_ok.false, c.no_reader.ensures))
