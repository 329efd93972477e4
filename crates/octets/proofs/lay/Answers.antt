-- `octets::lay` meets its contract: the part lent is as long as the source, so all of it becomes the source.
use Prim.Native.Nat.{◌+◌, ◌-◌}
use mathlib.Core.Path.{refl, ap, ◌∙◌}
use lib.ListN.{length, take, drop}
use borrow.Rule.Slice.PartMut.{put_mid}
use Rattle.octets.proofs.Turns.{lent, part-long, copied-whole}
use borrow.Author.Rules.{rules}
use Rattle.octets.proofs.lay.Goals as goal

pub returns : goal.returns
returns c =
    let a = c.args in
    let n = length a.src.now in
    ap (put_mid a.from (a.from + n - a.from) a.area.now)
    (c.copy.ensures ∙ copied-whole (take (a.from + n - a.from) (drop a.from a.area.now)) a.src.now
    (part-long a.area.now a.from n (search rules)))
    ∙ lent a.area.now a.from n a.src.now refl
