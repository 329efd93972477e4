-- `octets::exact` meets its contract: what eight octets spell is below 2^64.
use Rattle.octets.proofs.Turns.{exact_number}
use native.Mathlib.Omega.{arith}
use Rattle.octets.proofs.exact.Goals as goal

pub returns : goal.returns
returns c = exact_number c.args.s.now c.number.result c.requires
    (λ i. omega (arith, c.type_inv.s i)) c.number.ensures
