-- The lines of the numbers passed stand one after another, and each has at most 187 octets.
use Prim.Native.Nat.{ℕ, ◌*◌, ◌+◌}
use mathlib.Core.Path.{◌≡◌}
use lib.ListN.{length, get_or}
use Rattle.unpack_text.specs.Lines.{Wrote, firsts}
use Rattle.refusals.specs.Words.{refused_line}
use Rattle.refusals.proofs.put_refusals.Given as goal

abbrev pub invariant-loop-i : goal.invariant-loop-i
invariant-loop-i l = (length l.area ≡ length l.initial.area) × Wrote (187 * l.i) (firsts (λ (j : ℕ). refused_line (j + 1)
    (get_or l.fn.counts (j + 1) 0)) l.i) l.initial.area l.from l.area l.at
