-- No line where there is none.
use native.Mathlib.Omega.{arith}
use borrow.Author.Tests.{eq-eqb, ne_eqb}
use Rattle.rules.specs.Listing.{text}
use Rattle.refusals.specs.Words.{refused_line}
use Rattle.unpack_text.proofs.Writes.{wrote_text, wrote_then}
use Rattle.refusals.proofs.Laws.{wrote_nothing}
use mathlib.Core.Path.{refl}
use Rattle.refusals.proofs.put_refused.Goals as goal

pub returns-then-m-eq0 : goal.returns-then-m-eq0
unfolding refused_line
returns-then-m-eq0 c = rw (eq-eqb _ _ c.if-m-eq0.true) (wrote_nothing 187 _ _ refl)

pub returns : goal.returns
unfolding refused_line text
returns c =
    rw (ne_eqb _ _ c.if-m-eq0.false)
    (wrote_then c.put_naming-at.ensures (wrote_text c.put_octet.ensures)
    (omega (arith, c.requires)))
