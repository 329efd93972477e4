-- The text, then the number.
use Rattle.listing_text.proofs.Laws.{decimal_fits}
use Rattle.unpack_text.proofs.Writes.{wrote_named}
use borrow.Author.Rules.{rules}
use Rattle.unpack_text.proofs.put_named.Goals as goal

pub put_decimal-requires : goal.put_decimal-requires
put_decimal-requires c = decimal_fits _ _ (search rules)

pub returns : goal.returns
returns c =
    wrote_named c.args.v c.put_text-at.ensures c.put_decimal.ensures
    c.requires
