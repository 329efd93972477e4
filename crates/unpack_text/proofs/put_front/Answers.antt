-- Number and class, or number and that it was left out.
use mathlib.Core.Path.{refl}
use lib.Dec.{lit≤}
use Rattle.rules.specs.Listing.{text}
use Rattle.listing_text.proofs.Turns.{filled_fits}
use Rattle.listing_text.proofs.Patterns.{marked, plain, plains}
use Rattle.unpack_text.specs.Lines.{front_text}
use Rattle.unpack_text.proofs.Writes.{wrote_front, wrote_filled, wrote_more}
use Rattle.unpack_text.proofs.Filled.{left-strung}
use borrow.Author.Rules.{rules}
use Rattle.unpack_text.proofs.put_front.Goals as goal

pub put_filled-requires : goal.put_filled-requires
put_filled-requires c = filled_fits _ _ _ (search rules)

pub returns-then-left : goal.returns-then-left
unfolding text marked plain plains front_text
returns-then-left c =
    rw c.if-left.true (wrote_more 29 (lit≤ tt)
    (wrote_filled _ _ _ (left-strung _) refl c.put_filled.ensures))

pub returns-else-left : goal.returns-else-left
unfolding front_text
returns-else-left c = rw c.if-left.false (wrote_front _ _ c.put_front.ensures)
