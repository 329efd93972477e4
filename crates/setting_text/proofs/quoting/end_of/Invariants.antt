-- Of the first i octets, the last that is no blank ends at `end`.
use Rattle.std.proofs.Common.{◌≡◌, ◌≤◌, drop}
use Rattle.setting_text.specs.Quotes.{last_end}
use Rattle.setting_text.proofs.quoting.end_of.Given as goal

abbrev pub invariant-loop-i : goal.invariant-loop-i
invariant-loop-i l = (l.end ≤ l.i) × (last_end 0 0 l.line ≡ last_end l.i l.end (drop l.i l.line))
