-- The place that was found is one of the list.
use Rattle.std.proofs.Common.{sym, rules}
use Rattle.rules.specs.Refusals.{channel_at}
use Rattle.rules.proofs.Tests.{found_at}
use Rattle.setting_text.proofs.Draft.add_lane_of.Goals as goal

pub overflow_cast-c : goal.overflow_cast-c
unfolding channel_at
overflow_cast-c c = let h = found_at _ _ _ (sym c.in-Some.ensures) in let r = c.requires.0.channels in search rules
