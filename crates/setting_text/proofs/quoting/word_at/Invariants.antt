-- Word n is word n - k of those from octet `at` on.
use Rattle.std.proofs.Common.{◌≡◌, ◌-◌, [], drop, get_or}
use Rattle.setting_text.specs.Texts.{words}
use Rattle.setting_text.proofs.quoting.word_at.Given as goal

abbrev pub invariant-loop-k : goal.invariant-loop-k
invariant-loop-k l = get_or (words l.line) l.n [] ≡ get_or (words (drop l.at l.line)) (l.n - l._k) []
