-- `fecf::check_of` meets its contract. That the table of the code is that of the remainders is one test, which is computed here (`refl`): the two lists are the
-- same, entry for entry. The rest is a law over all inputs.
use mathlib.Core.Path.{refl, ◌∙◌}
use native.Mathlib.Omega.{arith}
use Rattle.rules.specs.Octets.{check_bit, check_bits}
use Rattle.rules.proofs.Octets.{octets_each}
use Rattle.fecf.specs.Remainders.{remainder, remainders}
use Rattle.fecf.proofs.Folds.{check_is}
use Rattle.fecf.proofs.check_of.Goals as goal

pub returns : goal.returns
unfolding remainders remainder check_bits check_bit
returns c =
    let octets = octets_each c.args.octets.now (λ i. omega (arith, c.type_inv.octets i)) in
    c.check_with.ensures ∙ check_is _ _ refl octets
