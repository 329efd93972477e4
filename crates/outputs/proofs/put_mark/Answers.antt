-- `outputs::put_mark`: what its callees promise is enough.
use Rattle.unpack_text.proofs.Writes.{wrote_then, wrote_text, wrote_more}
use lib.Dec.{lit≤}
use Rattle.outputs.specs.Names.{mark}
use Rattle.rules.specs.Listing.{text}
use borrow.Author.Rules.{rules}
use Rattle.outputs.proofs.put_mark.Goals as goal

pub returns-then-old : goal.returns-then-old
unfolding mark text
returns-then-old c =
    rw c.if-old.true
    (wrote_more 26 (lit≤ tt) (wrote_then c.put_named-at.ensures (wrote_text c.put_text.ensures) (search rules)))

pub returns-else-old : goal.returns-else-old
unfolding mark text
returns-else-old c =
    rw c.if-old.false (wrote_then c.put_named-at.ensures (wrote_text c.put_text-else-old.ensures) (search rules))
