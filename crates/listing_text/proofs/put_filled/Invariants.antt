-- What was put so far, and what is left of the pattern and the numbers.
use lib.ListN.{drop}
use Rattle.std.specs.Slice.Iter.{iter_rest}
use Rattle.listing_text.specs.Puts.{filled}
use Rattle.listing_text.proofs.Turns.{Left}
use Rattle.listing_text.proofs.put_filled.Given as goal

abbrev pub invariant-loop-x : goal.invariant-loop-x
invariant-loop-x l = Left (filled (drop l.x-index l.pattern) (iter_rest l.left)) l.area l.at (filled l.pattern l.values) l.initial.area l.from
