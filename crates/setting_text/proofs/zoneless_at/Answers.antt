-- The first that passes, or none.
use Rattle.std.proofs.Common.{sym, ◌∙◌, arith, eq-eqb}
use Rattle.rules.proofs.Tests.{first-at, first-none}
use Rattle.setting_text.specs.Facts.{zoneless}
use Rattle.setting_text.proofs.zoneless_at.Goals as goal

pub returns-then-zone_of-eq0 : goal.returns-then-zone_of-eq0
unfolding zoneless
returns-then-zone_of-eq0 c =
    sym (first-at _ _ _ c.loop-i-test.true (eq-eqb _ _ (sym c.zone_of.ensures ∙ c.if-zone_of-eq0.true)) c.loop-i.invariant)

pub returns : goal.returns
unfolding zoneless
returns c = sym (first-none _ _ (λ k h. c.loop-i.invariant k (omega arith)))
