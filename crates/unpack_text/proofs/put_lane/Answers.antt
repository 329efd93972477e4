-- Four numbers.
use mathlib.Core.Path.{refl}
use Rattle.rules.specs.Listing.{text}
use Rattle.listing_text.proofs.Turns.{filled_fits}
use Rattle.listing_text.proofs.Patterns.{marked, plain, plains}
use Rattle.unpack_text.proofs.Writes.{wrote_filled}
use Rattle.unpack_text.proofs.Filled.{lane-strung}
use borrow.Author.Rules.{rules}
use Rattle.unpack_text.proofs.put_lane.Goals as goal

pub put_filled-requires : goal.put_filled-requires
put_filled-requires c = filled_fits _ _ _ (search rules)

pub returns : goal.returns
unfolding text marked plain plains
returns c = wrote_filled _ _ _ (lane-strung _ _) refl c.put_filled.ensures
