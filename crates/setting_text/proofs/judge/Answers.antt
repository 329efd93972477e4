-- The place that was found is one of the list.
use Rattle.std.proofs.Common.{sym, rules}
use Rattle.rules.proofs.Tests.{found_at}
use Rattle.setting_text.specs.Facts.{zoneless}
use Rattle.setting_text.proofs.judge.Goals as goal

pub offset_bounds-s-i : goal.offset_bounds-s-i
unfolding zoneless
offset_bounds-s-i c = let h = found_at _ _ _ (sym c.in-Some.ensures) in search rules

pub bounds-s-i : goal.bounds-s-i
unfolding zoneless
bounds-s-i c = let h = found_at _ _ _ (sym c.in-Some.ensures) in search rules
