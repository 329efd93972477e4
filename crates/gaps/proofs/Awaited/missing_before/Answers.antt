-- `gaps::Awaited::missing_before` meets its contract: counts are below 256^n, so nothing wraps at 2^64.
use Rattle.std.proofs.Common.{arith}
use Rattle.rules.specs.Reading.{missing}
use Rattle.rules.proofs.Octets.{pow256_pos}
use Rattle.gaps.proofs.Gaps.{modulus_is, modulus_small}
use Rattle.gaps.proofs.Awaited.missing_before.Goals as goal

pub overflow_add-result : goal.overflow_add-result
overflow_add-result c =
    let n = c.args.self.octets in
    let e = modulus_is n _ c.args.self.fits.0 c.modulus-m.ensures in
    let h = modulus_small n c.args.self.fits.0 in
    omega arith

pub overflow_sub-result : goal.overflow_sub-result
overflow_sub-result c =
    let e = modulus_is _ _ c.args.self.fits.0 c.modulus-m.ensures in
    omega arith

pub nonzero_rem-result : goal.nonzero_rem-result
nonzero_rem-result c =
    let e = modulus_is _ _ c.args.self.fits.0 c.modulus-m.ensures in
    let h = pow256_pos c.args.self.octets in
    omega arith

pub returns-then-self : goal.returns-then-self
unfolding missing
returns-then-self c = rw (c.if-self.true, modulus_is _ _ c.args.self.fits.0 c.modulus-m.ensures)

pub returns-else-self : goal.returns-else-self
unfolding missing
returns-else-self c = rw c.if-self.false
