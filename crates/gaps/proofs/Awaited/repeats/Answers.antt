-- `gaps::Awaited::repeats` meets its contract: what is expected is below 256^n, so that nothing wraps at 2^64, and the sum is the rule's.
-- Where no count is expected the flag alone says no, whatever number stands there.
use Rattle.std.proofs.Common.{arith, sym}
use mathlib.Core.Bool.{and-true, and-false}
use borrow.Author.Tests.{eq-eqb, ne_eqb}
use Rattle.rules.specs.Reading.{last_taken, repeats}
use Rattle.rules.proofs.Octets.{pow256_pos}
use Rattle.gaps.proofs.Gaps.{modulus_is, modulus_small}
use Rattle.gaps.proofs.Awaited.repeats.Goals as goal

pub overflow_add-last : goal.overflow_add-last
overflow_add-last c =
    let n = c.args.self.octets in
    let e = modulus_is n _ c.args.self.fits.0 c.modulus-values.ensures in
    let h = modulus_small n c.args.self.fits.0 in
    omega arith

pub overflow_sub-last : goal.overflow_sub-last
overflow_sub-last c =
    let e = modulus_is _ _ c.args.self.fits.0 c.modulus-values.ensures in
    let h = pow256_pos c.args.self.octets in
    omega arith

pub nonzero_rem-last : goal.nonzero_rem-last
nonzero_rem-last c =
    let e = modulus_is _ _ c.args.self.fits.0 c.modulus-values.ensures in
    let h = pow256_pos c.args.self.octets in
    omega arith

pub returns-then-k-last : goal.returns-then-k-last
unfolding repeats last_taken
returns-then-k-last c =
    let e = modulus_is _ _ c.args.self.fits.0 c.modulus-values.ensures in
    rw (eq-eqb _ _ (rw e at c.if-k-last.true)) (sym (and-true c.args.self.expect.known))

pub returns-else-k-last : goal.returns-else-k-last
unfolding repeats last_taken
returns-else-k-last c =
    let e = modulus_is _ _ c.args.self.fits.0 c.modulus-values.ensures in
    rw (e, ne_eqb _ _ (rw e at c.if-k-last.false)) (sym (and-false c.args.self.expect.known))
