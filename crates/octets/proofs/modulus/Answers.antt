-- `octets::modulus` meets its contract: from 256^8 on nothing is left modulo 2^64.
use Rattle.std.proofs.Common.{ℕ, ◌%◌, ◌^◌, ap}
use Rattle.octets.proofs.Turns.{none_left, one_moved}
use Rattle.octets.proofs.modulus.Goals as goal

pub returns-then-n-lt8 : goal.returns-then-n-lt8
returns-then-n-lt8 c = ap (λ (p : ℕ). p % 2 ^ 64) (one_moved c.args.n)

pub returns-else-n-lt8 : goal.returns-else-n-lt8
returns-else-n-lt8 c = none_left c.args.n c.if-n-lt8.false
