-- No octet, or the first of some. That of a Space Packet is asked twice, and says the same.
use Rattle.std.proofs.Common.{arith, sym, ◌∙◌}
use borrow.Author.Tests.{eq-eqb}
use Rattle.rules.specs.Packets.{measured}
use Rattle.rules.proofs.Measures.{measure-empty, measure-first}
use Rattle.packets.proofs.measure_at.Goals as goal

pub returns-in-empty : goal.returns-in-empty
returns-in-empty c = sym (measure-empty _ (omega arith))

pub returns-in-len1-up : goal.returns-in-len1-up
unfolding measured
returns-in-len1-up c = c.space_at.ensures ∙ sym (measure-first _ (omega arith) ∙ rw (eq-eqb _ _ c.if-a-eq0.true))

pub returns-in-len1-up-2 : goal.returns-in-len1-up-2
returns-in-len1-up-2 c = c.measured_of.ensures ∙ sym (measure-first _ (omega arith))
