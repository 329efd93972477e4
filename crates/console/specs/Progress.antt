-- How far a program is.
use Rattle.std.specs.Prelude.{ℕ, ◌/◌, cond}
use Rattle.rules.specs.Tests.{◌=?◌, ◌<?◌}

-- How far a run is in percent, where a hundredth of its input is h.
unfoldable pub percent_of : ℕ → ℕ → ℕ
percent_of h n = cond (h =? 0) 0 (cond (100 <? n / h) 100 (n / h))
