-- All lines before this one were taken.
use Rattle.std.proofs.Common.{◌≡◌, ◌+◌, length, drop}
use Rattle.setting_text.specs.Texts.{lines}
use Rattle.setting_text.specs.Facts.{nothing, gather}
use Rattle.setting_text.specs.Places.{Room}
use Rattle.setting_text.proofs.take_lines.Given as goal

abbrev pub invariant-loop-k : goal.invariant-loop-k
invariant-loop-k l = record {
  goes : gather 1 nothing (lines l.octets) ≡ gather (length l.yielded + 1) l.d (drop (length l.yielded) (lines l.octets));
  room : Room l.d;
}
