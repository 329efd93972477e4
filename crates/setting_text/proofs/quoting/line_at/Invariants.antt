-- Line n is line n - k + 1 of those from octet `at` on.
use Rattle.std.proofs.Common.{◌≡◌, ◌-◌, [], drop, get_or}
use Rattle.setting_text.specs.Texts.{lines}
use Rattle.setting_text.specs.Quotes.{line_of}
use Rattle.setting_text.proofs.quoting.line_at.Given as goal

abbrev pub invariant-loop-k : goal.invariant-loop-k
invariant-loop-k l = line_of l.n l.octets ≡ get_or (lines (drop l.at l.octets)) (l.n - l._k) []
