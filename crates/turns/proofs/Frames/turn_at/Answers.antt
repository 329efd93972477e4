-- `turns::Frames::turn_at` meets its contract: the k-th parts are lent, and stand in their places again.
use Prim.Native.Nat.{◌+◌, ◌-◌, ◌*◌}
use native.Mathlib.Omega.{arith}
use Rattle.turns.proofs.Turns.{taken_at}
use borrow.Author.Rules.{rules}
use Rattle.turns.proofs.Frames.turn_at.Goals as goal

pub returns : goal.returns
returns c =
    let k = c.args.k in
    taken_at _ _ _ _ _ _ _ _ (65536 * k + 65536 - 65536 * k) (256 * k + 256 - 256 * k) (omega arith) (omega arith)
    c.take_turn.ensures (search rules) (search rules)
