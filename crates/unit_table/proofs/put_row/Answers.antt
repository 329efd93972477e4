-- Eight numbers of a Space Packet; of any other unit six, with two empty fields before the last.
use mathlib.Core.Path.{refl}
use lib.Dec.{lit≤}
use Rattle.std.proofs.Common.{Some}
use Rattle.rules.specs.declared.Family.TheVariants.{Encapsulation}
use Rattle.rules.specs.Listing.{text}
use Rattle.listing_text.proofs.Turns.{filled_fits}
use Rattle.listing_text.proofs.Patterns.{marked, plain, plains}
use Rattle.unpack_text.proofs.Writes.{wrote_filled, wrote_more}
use Rattle.unit_table.specs.Rows.{packet_text, family_text}
use Rattle.unit_table.proofs.Parts.{space-strung, other-strung}
use borrow.Author.Rules.{rules}
use Rattle.unit_table.proofs.put_row.Goals as goal

pub put_filled-requires : goal.put_filled-requires
put_filled-requires c = filled_fits _ _ _ (search rules)

pub returns-in-Some-Space : goal.returns-in-Some-Space
unfolding text marked plain plains
returns-in-Some-Space c =
    wrote_filled _ _ _ (space-strung _ (search rules)) refl c.put_filled.ensures

pub put_filled-requires-in-Some-Encapsulation : goal.put_filled-requires-in-Some-Encapsulation
put_filled-requires-in-Some-Encapsulation c = filled_fits _ _ _ (search rules)

pub returns-in-Some-Encapsulation : goal.returns-in-Some-Encapsulation
unfolding text marked plain plains packet_text family_text
returns-in-Some-Encapsulation c =
    wrote_more 174 (lit≤ tt) (wrote_filled _ _ _ (other-strung _ (Some Encapsulation) (search rules) refl) refl
    c.put_filled-in-Some-Encapsulation.ensures)

pub put_filled-requires-in-None : goal.put_filled-requires-in-None
put_filled-requires-in-None c = filled_fits _ _ _ (search rules)

pub returns-in-None : goal.returns-in-None
unfolding text marked plain plains packet_text family_text
returns-in-None c =
    wrote_more 174 (lit≤ tt) (wrote_filled _ _ _ (other-strung _ _ c.in-None.is refl) refl
    c.put_filled-in-None.ensures)
