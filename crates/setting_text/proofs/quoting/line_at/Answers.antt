-- One line further, until there are none before it.
use Rattle.std.proofs.Common.{refl}
use Rattle.setting_text.specs.Quotes.{line_of}
use Rattle.setting_text.proofs.quoting.line_at.Goals as goal

pub loop-k-init : goal.loop-k-init
unfolding line_of
loop-k-init c = refl
