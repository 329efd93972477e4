-- `octets::number` meets its contract: the total is what the octets so far spell, modulo 2^64.
use Rattle.std.proofs.Common.{rules, arith}
use Rattle.octets.proofs.Turns.{folded}
use Rattle.octets.proofs.number.Goals as goal

pub returns : goal.returns
returns c =
    folded c.args.s.now c.fold.result (λ i. omega (arith, c.type_inv.s i)) (search rules)
