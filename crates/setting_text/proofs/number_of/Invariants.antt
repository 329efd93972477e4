-- The digits before this one stand for v, and v is at most 65,535.
use Rattle.std.proofs.Common.{◌≡◌, ◌≤◌, drop}
use Rattle.setting_text.specs.Texts.{number_of}
use Rattle.setting_text.specs.Places.{number_from}
use Rattle.setting_text.proofs.number_of.Given as goal

abbrev pub invariant-loop-x : goal.invariant-loop-x
invariant-loop-x l = (l.v ≤ 65535) × (number_of l.word ≡ number_from l.v (drop l.x-index l.word))
