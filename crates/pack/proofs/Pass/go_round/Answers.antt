use native.Mathlib.Omega.{arith}
use Rattle.pack.specs.Rounds.{begun}
use Rattle.pack.proofs.Laws.{going, ended, turned}
use Rattle.pack.proofs.Pass.go_round.Goals as goal

pub loop-turn-init : goal.loop-turn-init
loop-turn-init c = record { there = omega arith; dealt = begun; counted = λ h. absurd (omega (arith, h)) }

pub loop-turn-preserved : goal.loop-turn-preserved
loop-turn-preserved c = turned (going _ _ _ _ _ _ _ _ _ c.in-Some.is c.loop-turn.invariant) c.deal-place.ensures

pub returns-after-loop-turn : goal.returns-after-loop-turn
returns-after-loop-turn c =
    let l = c.loop-turn in
    ended _ _ _ _ _ l._turn l.place l.areas l.lists (omega (arith, c.loop-turn-test.false, l.auto._turn-end)) l.invariant
