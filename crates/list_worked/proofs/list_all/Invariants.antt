-- `list_worked::list_all` meets its contract. Before each frame the listing goes on from what is carried.
use Rattle.list_worked.specs.Runs.{Reached}
use Rattle.list_worked.proofs.list_all.Given as goal

abbrev pub invariant-loop-k : goal.invariant-loop-k
invariant-loop-k l = Reached l.k l.state l.areas.held.now l.areas.units.now l.areas.records.now
