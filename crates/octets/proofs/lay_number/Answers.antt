-- `octets::lay_number` meets its contract: all of the part lent is spelled.
use Prim.Native.Nat.{ℕ, ◌+◌, ◌-◌}
use mathlib.Core.Path.{ap, ◌∙◌}
use borrow.Rule.Slice.PartMut.{put_mid}
use Rattle.rules.specs.Octets.{be}
use Rattle.rules.proofs.Octets.{length-be}
use Rattle.octets.proofs.Turns.{lent, part-long}
use borrow.Author.Rules.{rules}
use Rattle.octets.proofs.lay_number.Goals as goal

pub returns : goal.returns
returns c =
    let a = c.args in
    ap (put_mid a.from (a.from + a.n - a.from) a.area.now)
    (c.spell.ensures ∙ ap (λ (k : ℕ). be k a.x) (part-long a.area.now a.from a.n (search rules)))
    ∙ lent a.area.now a.from a.n (be a.n a.x) (length-be a.n a.x)
