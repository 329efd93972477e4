-- Before each frame the stage is reached, and the areas have room; the frames are counted.
use mathlib.Core.Path.{◌≡◌}
use lib.ListN.{length}
use Rattle.rules.specs.Areas.{units_size, records_size}
use Rattle.unpack.specs.Stages.{stage_of, Reached}
use Rattle.unpack.proofs.each_frame.take_all.Given as goal

abbrev pub invariant-loop-k : goal.invariant-loop-k
invariant-loop-k l =
    (l.turn.count ≡ l._k) × (length l.areas.units ≡ units_size) × (length l.areas.records ≡ records_size)
    × Reached (stage_of l.without l.initial.turn l.initial.areas) l.turn.count (stage_of l.without l.turn l.areas)
