-- The lines of the lanes passed stand one after another, and each has at most 109 octets.
use Prim.Native.Nat.{ℕ, ◌*◌}
use mathlib.Core.Path.{◌≡◌}
use lib.ListN.{length, get_or}
use Rattle.unpack_text.specs.Totals.{no_lane_tally}
use Rattle.unpack_text.specs.Lines.{Wrote, firsts, lane_line}
use Rattle.unpack_text.proofs.put_lanes.Given as goal

abbrev pub invariant-loop-i : goal.invariant-loop-i
invariant-loop-i l = (length l.area ≡ length l.initial.area) × Wrote (109 * l.i) (firsts (λ (j : ℕ). lane_line j
    (get_or l.ts j no_lane_tally)) l.i) l.initial.area l.from l.area l.at
