-- `pack::Pass::go_round` meets its contract: turn by turn, each with a file that there is, and handed what the one before left.
use Rattle.std.specs.Prelude.{is_some}
use Rattle.pack.proofs.Laws.{At}
use Rattle.pack.proofs.Pass.go_round.Given as goal

abbrev pub invariant-loop-turn : goal.invariant-loop-turn
invariant-loop-turn l =
    At (is_some l.self.writing) l.initial.place.course l.initial.place.files l.self.insert.now l.self.ocf.now l._turn l.place l.areas l.lists
