-- `writer::set_up` meets its contract: the setting's rule decides which of the two answers it is.
use mathlib.Core.Path.{sym, ◌∙◌}
use Rattle.rules.specs.Calls.{set_up_writer}
use Rattle.rules.proofs.Promises.{writer-starts-by}
use Rattle.writer.proofs.set_up.Goals as goal

pub returns-then-setting_ok : goal.returns-then-setting_ok
unfolding set_up_writer
returns-then-setting_ok c = writer-starts-by _ _ (rw (sym c.setting_ok.ensures ∙ c.if-setting_ok.true, c.fresh_writer.ensures))

pub returns-else-setting_ok : goal.returns-else-setting_ok
unfolding set_up_writer
returns-else-setting_ok c = writer-starts-by _ _ (rw (sym c.setting_ok.ensures ∙ c.if-setting_ok.false, c.no_writer.ensures))
