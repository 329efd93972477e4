-- `header::count_in` meets its contract: the octets behind the header are a part of the frame, and octets spell a number below 256^n.
use Prim.Native.Nat.{ℕ, ◌+◌, ◌-◌}
use mathlib.Core.Path.{◌≡◌, ap, ◌∙◌}
use lib.ListN.{take, drop}
use native.Mathlib.Omega.{arith}
use Rattle.rules.specs.Octets.{num}
use Rattle.rules.specs.Frames.{count_in}
use Rattle.rules.proofs.Octets.{octets_each, octets_drop, num-part}
use Rattle.header.proofs.count_in.Goals as goal

pub returns : goal.returns
unfolding count_in
returns c =
    let a = c.args in
    let e : 7 + a.c.octets - 7 ≡ a.c.octets = omega arith in
    let v = c.exact.ensures ∙ ap (λ (n : ℕ). num (take n (drop 7 a.frame.now))) e in
    let o = octets_drop 7 a.frame.now (octets_each a.frame.now (λ i. omega (arith, c.type_inv.frame i))) in
    (v, rw v (num-part a.c.octets (drop 7 a.frame.now) o))
