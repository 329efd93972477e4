-- `rows::word_in` meets its contract. Eight octets from the number's place on are the number's.
use Prim.Native.Nat.{ℕ, ◌+◌, ◌-◌, ◌*◌}
use lib.ListN.{take, drop}
use mathlib.Core.Path.{◌≡◌, ap, ◌∙◌}
use Rattle.rules.specs.Octets.{num}
use native.Mathlib.Omega.{arith}
use Rattle.rows.specs.Rows.{word}
use Rattle.rows.proofs.word_in.Goals as goal

pub returns : goal.returns
unfolding word
returns c =
    let a = c.args in
    let e : 8 * a.i + 8 - 8 * a.i ≡ 8 = omega arith in
    c.exact.ensures ∙ ap (λ (n : ℕ). num (take n (drop (8 * a.i) a.s.now))) e
