-- The first two fields, then two numbers.
use native.Mathlib.Omega.{arith}
use Rattle.rules.specs.Listing.{text}
use Rattle.listing_text.proofs.Laws.{length_front}
use Rattle.listing_text.proofs.Turns.{filled_fits}
use Rattle.listing_text.proofs.Lines.{put-line}
use Rattle.listing_text.proofs.put_line.Goals as goal

pub put_filled-requires : goal.put_filled-requires
put_filled-requires c =
    let a = c.args in
    filled_fits _ _ _ (omega (arith, length_front a.k a.a.class, c.put_front-at.ensures.ends))

pub returns : goal.returns
unfolding text
returns c =
    put-line _ _ c.requires c.amount_of.ensures c.put_front-at.ensures
    c.put_filled.ensures
