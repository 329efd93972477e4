use mathlib.Core.Path.{◌∙◌, ap}
use Prim.Native.Nat.{zero, ◌+◌, ℕ}
use lib.ListN.{length-replicate}
use native.Mathlib.Omega.{arith}
use borrow.Author.Rules.{rules}
use Rattle.rules.specs.Areas.{units_size, records_size}
use Rattle.rules.proofs.Valid.{good_reader}
use Rattle.unpack.specs.Stages.{stage_of}
use Rattle.unpack.proofs.Carried.{begins, finished, turned_on}
use Rattle.unpack.proofs.each_frame.take_all.Goals as goal

pub loop-k-init : goal.loop-k-init
loop-k-init c =
    let b = begins _ _ _ c.requires c.first_turn-turn.ensures in
    (b.0, length-replicate units_size zero, length-replicate records_size zero, b.1)

pub read_frame-came-requires : goal.read_frame-came-requires
unfolding stage_of
read_frame-came-requires c = let h = good_reader _ c.loop-k.invariant.3.valid in omega (arith, h.setting.high)

pub turn_frame-turn-requires : goal.turn_frame-turn-requires
unfolding stage_of
turn_frame-turn-requires c =
    let l = c.loop-k.invariant in (
      l.3.valid,
      record { more = omega arith; units = omega (arith, l.1); records = omega (arith, l.2) },
      c.read_frame-came.ensures,
      omega (arith, (good_reader _ l.3.valid).setting.high),
    )

pub loop-k-preserved : goal.loop-k-preserved
loop-k-preserved c =
    let l = c.loop-k.invariant in
    let e = c.turn_frame-turn.ensures in
    let t = turned_on l.3 e.turned in
    (t.1 (search rules) ∙ ap (λ (n : ℕ). n + 1) l.0, e.sizes.0 ∙ l.1, e.sizes.1 ∙ l.2, t.0)

pub returns-after-loop-k : goal.returns-after-loop-k
returns-after-loop-k c = finished _ _ _ _ _ c.first_turn-turn.ensures c.loop-k.invariant.3

pub returns-then-not-turn : goal.returns-then-not-turn
returns-then-not-turn c =
    finished _ _ _ _ _ c.first_turn-turn.ensures (turned_on c.loop-k.invariant.3 c.turn_frame-turn.ensures.turned).0
