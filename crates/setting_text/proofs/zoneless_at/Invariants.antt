-- Each channel before i has a zone.
use Rattle.std.proofs.Common.{◌≡◌, ℕ, ◌<◌, false}
use Rattle.rules.specs.Tests.{◌=?◌}
use Rattle.rules.specs.Settings.{channel, zone}
use Rattle.setting_text.proofs.zoneless_at.Given as goal

abbrev pub invariant-loop-i : goal.invariant-loop-i
invariant-loop-i l = (k : ℕ) → k < l.i → (zone l.s (channel l.s k) =? 0) ≡ false
