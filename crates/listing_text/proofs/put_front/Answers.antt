-- The number, and the word between two spaces.
use Rattle.std.proofs.Common.{rules, arith, ap, length}
use Rattle.listing_text.proofs.Laws.{length-decimal, decimal_fits}
use Rattle.listing_text.proofs.Lines.{length-words, put_front}
use Rattle.listing_text.proofs.put_front.Goals as goal

pub put_decimal-at-requires : goal.put_decimal-at-requires
put_decimal-at-requires c = decimal_fits _ _ (search rules)

pub put_text-requires : goal.put_text-requires
put_text-requires c =
    omega (arith, length-decimal c.args.k, length-words c.args.class, ap length c.word_of.ensures, c.put_decimal-at.ensures.ends)

pub returns : goal.returns
returns c = put_front _ _ c.requires c.word_of.ensures c.put_decimal-at.ensures c.put_text.ensures
