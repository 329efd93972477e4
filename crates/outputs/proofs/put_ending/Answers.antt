-- `outputs::put_ending`: what its callees promise is enough.
use Rattle.outputs.proofs.Endings.{lane_ending, table_ending, records_ending}
use Rattle.rules.specs.Listing.{text}
use Rattle.outputs.proofs.put_ending.Goals as goal

pub returns-then-i-lt8 : goal.returns-then-i-lt8
unfolding text
returns-then-i-lt8 c = lane_ending _ c.if-i-lt8.true c.put_named.ensures

pub returns-then-i-eq8 : goal.returns-then-i-eq8
unfolding text
returns-then-i-eq8 c = table_ending _ c.if-i-lt8.false c.if-i-eq8.true
    c.put_text.ensures

pub returns-else-i-eq8 : goal.returns-else-i-eq8
unfolding text
returns-else-i-eq8 c = records_ending _ c.if-i-lt8.false c.if-i-eq8.false
    c.put_text-else-i-eq8.ensures
