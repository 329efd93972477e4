-- `writer::frames::put_front` meets its contract: header, count and insert zone are laid one after another.
use mathlib.Core.Path.{ap, ◌∙◌}
use Prim.Native.Nat.{ℕ, ◌+◌}
use mathlib.Core.List.{List}
use Rattle.rules.specs.Octets.{be}
use Rattle.rules.specs.Areas.{laid}
use Rattle.writer.proofs.Laying.{front-laid}
use borrow.Author.Rules.{rules}
use Rattle.writer.proofs.frames.put_front.Goals as goal

pub returns : goal.returns
returns c =
    let a = c.args in
    c.lay.ensures
    ∙ ap (λ (y : List ℕ). laid y (7 + a.x.channel.octets) a.insert.now)
    (c.lay_number-2.ensures ∙ ap (λ (y : List ℕ). laid y 7 (be a.x.channel.octets a.x.count))
    (c.lay_number.ensures
    ∙ ap (λ (n : ℕ). laid a.area.now 0 (be 7 n)) c.header_of.ensures))
    ∙ front-laid a.area.now a.s a.x.channel a.x.lane a.x.count a.insert.now (search rules)
