-- `fecf::check_long` meets its contract: 256 octets or more made shorter by the generator's 128th power.
use mathlib.Core.Path.{refl, sym, ap, ◌∙◌}
use mathlib.Core.List.{List}
use Prim.Native.Nat.{ℕ, ◌-◌}
use native.Mathlib.Omega.{arith}
use lib.ListN.{length}
use Rattle.fecf.specs.Remainders.{from_by}
use Rattle.fecf.specs.Folds.{preset, shortest}
use lib.Seq.{length-take-le}
use Rattle.fecf.proofs.Turns.{made_shorter, part-long}
use Rattle.fecf.proofs.check_long.Goals as goal

pub slice_bounds-carry_far-end-2 : goal.slice_bounds-carry_far-end-2
slice_bounds-carry_far-end-2 c = let xs = c.args.octets.now in sym (length-take-le (length xs - 256) xs (omega arith))

pub returns : goal.returns
unfolding preset
returns c =
    let xs = c.args.octets.now in
    c.check_256.ensures
    ∙ ap (λ (l : List ℕ). from_by c.args.table.now 0 (shortest 0 l))
    (part-long c.carry_far-n.result 256 _
    ∙ made_shorter 16 (length xs - 256) xs _ _ _ refl c.carry_far-n.ensures.1 c.close_at.ensures)
