-- One octet is stored.
use Rattle.listing_text.proofs.Laws.{put_one}
use borrow.Author.Rules.{rules}
use Rattle.listing_text.proofs.put_octet.Goals as goal

pub returns : goal.returns
returns c = put_one _ _ _ (search rules)
