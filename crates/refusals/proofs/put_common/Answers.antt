-- A word, and the commonest.
use native.Mathlib.Omega.{arith}
use Rattle.rules.specs.Listing.{text}
use Rattle.refusals.specs.Words.{common_text}
use Rattle.unpack_text.proofs.Writes.{wrote_text, wrote_then}
use Rattle.refusals.proofs.put_common.Goals as goal

pub returns : goal.returns
unfolding common_text text
returns c =
    rw (← c.commonest_of-n.ensures.0)
    (wrote_then (wrote_text c.put_text-at.ensures) c.put_naming.ensures
    (omega (arith, c.requires)))
