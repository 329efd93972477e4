-- Two numbers, and the words.
use mathlib.Core.Path.{refl}
use Rattle.rules.specs.Listing.{text}
use Rattle.listing_text.proofs.Turns.{filled_fits}
use Rattle.listing_text.proofs.Patterns.{marked, plain, plains}
use Rattle.unpack_text.proofs.Writes.{wrote_filled, wrote_then, room_after}
use Rattle.refusals.specs.Words.{naming}
use Rattle.refusals.proofs.Laws.{barred, words_fit, wrote_words, naming-strung}
use borrow.Author.Rules.{rules}
use Rattle.refusals.proofs.put_naming.Goals as goal

pub put_filled-at-requires : goal.put_filled-at-requires
put_filled-at-requires c = filled_fits _ _ _ (search rules)

pub put_part-requires : goal.put_part-requires
unfolding text marked plain plains barred
put_part-requires c =
    let w = wrote_filled _ _ _ (naming-strung _ _) refl c.put_filled-at.ensures in
    words_fit _ _ (room_after 128 w (search rules))

pub returns : goal.returns
unfolding text marked plain plains barred naming
returns c =
    wrote_then (wrote_filled _ _ _ (naming-strung _ _) refl c.put_filled-at.ensures)
    (wrote_words _ c.put_part.ensures) (search rules)
