-- Its number, and its length or its header.
use mathlib.Core.Path.{refl}
use Rattle.rules.specs.Listing.{text}
use Rattle.listing_text.proofs.Turns.{filled_fits}
use Rattle.listing_text.proofs.Patterns.{marked, plain, plains, put-strung, fits-strung}
use lib.Dec.{lit≤}
use Rattle.unpack_text.proofs.Writes.{wrote_filled, wrote_more}
use Rattle.refusals.proofs.Laws.{short-strung, head-strung, first-most}
use borrow.Author.Rules.{rules}
use Rattle.refusals.proofs.put_first.Goals as goal

pub put_filled-requires : goal.put_filled-requires
put_filled-requires c = filled_fits _ _ _ (search rules)

pub returns-then-p-lt4 : goal.returns-then-p-lt4
unfolding text marked plain plains
returns-then-p-lt4 c =
    wrote_more 182 (lit≤ tt) (wrote_filled _ _ _ (short-strung _ _ c.if-p-lt4.true) refl
    c.put_filled.ensures)

pub put_filled-requires-2 : goal.put_filled-requires-2
unfolding text marked plain plains
put_filled-requires-2 c =
    let a = c.args in
    let k = c.if-p-lt4.false in
    fits-strung _ _ _ (head-strung a.p a.own _ c.head_of-h.ensures k) refl _ 182
    (first-most a.p a.own k) (search rules)

pub returns : goal.returns
unfolding text marked plain plains
returns c =
    let a = c.args in
    let k = c.if-p-lt4.false in
    record {
      put = put-strung _ _ _ (head-strung a.p a.own _ c.head_of-h.ensures k) refl c.put_filled-2.ensures;
      most = first-most a.p a.own k;
    }
