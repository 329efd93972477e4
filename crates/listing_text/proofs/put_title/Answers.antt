-- The title's text is its octets.
use borrow.Author.Rules.{rules}
use Rattle.rules.specs.Listing.{text}
use Rattle.rules.specs.Areas.{laid}
use Rattle.listing_text.proofs.put_title.Goals as goal

pub returns : goal.returns
unfolding text laid
returns c = search rules
