-- Whose the unit is and four numbers are laid one after another, as the rule's record has them.
use Rattle.lanes.proofs.Hands.{record_laid}
use Rattle.lanes.proofs.units.lay_record.Goals as goal

pub returns : goal.returns
returns c =
    record_laid _ _ _ _ _ _ c.requires c.lay.ensures c.lay_number.ensures
    c.lay_number-2.ensures c.lay_number-3.ensures c.lay_number-4.ensures
