-- Classes, sums, and what all lanes hold.
use mathlib.Core.Path.{refl, ap, ◌∙◌}
use Rattle.rules.specs.Listing.{text}
use Rattle.listing_text.proofs.Turns.{filled_fits}
use Rattle.listing_text.proofs.Patterns.{marked, plain, plains}
use Rattle.unpack_text.specs.Lines.{total_line, last_line}
use Rattle.unpack_text.proofs.Writes.{wrote_filled}
use Rattle.unpack_text.proofs.Filled.{total-strung}
use borrow.Author.Rules.{rules}
use Rattle.unpack_text.proofs.put_last.Goals as goal

pub put_filled-requires : goal.put_filled-requires
put_filled-requires c = filled_fits _ _ _ (search rules)

pub returns : goal.returns
unfolding text marked plain plains last_line
returns c =
    wrote_filled _ _ _ (total-strung _ _ ∙ ap (total_line c.args.t) c.held_in-held.ensures) refl
    c.put_filled.ensures
