use Rattle.octets.proofs.Turns.{spell_none, spell_turn, spell_all}
use Rattle.octets.proofs.spell.Goals as goal

pub loop-i-init : goal.loop-i-init
loop-i-init c = spell_none _ _

pub loop-i-preserved : goal.loop-i-preserved
loop-i-preserved c = spell_turn _ _ _ _ _ c.loop-i-test.true c.loop-i.invariant

pub returns : goal.returns
returns c = spell_all _ _ _ _ _ c.loop-i-test.false c.loop-i.invariant
