-- Number and class, or that it was left out; whose it is; and six numbers.
use mathlib.Core.Path.{refl}
use Rattle.rules.specs.Listing.{text}
use Rattle.listing_text.proofs.Turns.{filled_fits}
use Rattle.listing_text.proofs.Patterns.{marked, plain, plains}
use mathlib.Core.List.{append_assoc}
use Rattle.unpack_text.specs.Lines.{frame_line}
use Rattle.unpack_text.proofs.Writes.{wrote_filled, wrote-three, room_after}
use Rattle.unpack_text.proofs.Filled.{counts_strung}
use Rattle.unpack_text.proofs.put_line.Goals as goal

pub put_filled-requires : goal.put_filled-requires
put_filled-requires c =
    filled_fits _ _ _ (room_after 127 c.put_third-at.ensures
    (room_after 147 c.put_front-at.ensures c.requires))

pub returns : goal.returns
unfolding text marked plain plains frame_line
returns c =
    rw append_assoc (wrote-three c.put_front-at.ensures c.put_third-at.ensures
    (wrote_filled _ _ _ (counts_strung _) refl c.put_filled.ensures) c.requires)
