-- `octets::lay_fill` meets its contract: all of the part lent is filled.
use Prim.Native.Nat.{ℕ, ◌+◌, ◌-◌}
use mathlib.Core.Path.{ap, ◌∙◌}
use lib.ListN.{replicate, length-replicate}
use borrow.Rule.Slice.PartMut.{put_mid}
use Rattle.octets.proofs.Turns.{lent, part-long}
use borrow.Author.Rules.{rules}
use Rattle.octets.proofs.lay_fill.Goals as goal

pub returns : goal.returns
returns c =
    let a = c.args in
    ap (put_mid a.from (a.from + a.n - a.from) a.area.now)
    (c.fill.ensures ∙ ap (λ (k : ℕ). replicate k a.x) (part-long a.area.now a.from a.n (search rules)))
    ∙ lent a.area.now a.from a.n (replicate a.n a.x) (length-replicate a.n a.x)
