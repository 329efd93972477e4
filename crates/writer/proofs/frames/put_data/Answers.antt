-- `writer::frames::put_data` meets its contract: the pointer fits two octets, and the piece is the batch's, cut after a zone or where it ends.
use Prim.Native.Nat.{ℕ, ◌+◌, ◌-◌, ◌*◌}
use native.Mathlib.Omega.{arith}
use mathlib.Core.Path.{◌≡◌, ap, ap₂, ◌∙◌}
use mathlib.Core.List.{List, ◌++◌}
use lib.ListN.{length, take, drop, replicate, length-drop}
use lib.Seq.{take_all}
use Rattle.std.proofs.lemmas.List.{take_min}
use Rattle.rules.specs.Areas.{laid}
use Rattle.rules.specs.Frames.{data_header}
use Rattle.rules.specs.Writing.{pointer_of, zone_of}
use Rattle.rules.proofs.Written.{pointer_small}
use Rattle.writer.proofs.Laying.{data_laid}
use borrow.Author.Rules.{rules}
use Rattle.writer.proofs.frames.put_data.Goals as goal

pub data_header_of-requires : goal.data_header_of-requires
unfolding pointer_of
data_header_of-requires c = rw c.pointer_of-pointer.ensures (pointer_small _ _ (search rules))

pub returns : goal.returns
returns c =
    let a = c.args in
    let x = a.x in
    let k = x.lane.kind in
    let b = a.batch.now in
    let i = x.number in
    let rest = take (length b - i * x.zone) (drop (i * x.zone) b) in
    let piece = take c.min.result rest in
    let whole : rest ≡ drop (i * x.zone) b = take_all (length b - i * x.zone) (drop (i * x.zone) b) (omega (arith, length-drop (i * x.zone) b)) in
    let cut : piece ≡ take x.zone (drop (i * x.zone) b) =
    ap (λ (n : ℕ). take n rest) c.min.ensures ∙ take_min x.zone rest ∙ ap (λ (ys : List ℕ). take x.zone ys) whole in
    c.put_zone.ensures
    ∙ ap (λ (d : List ℕ). laid d (a.from + 3) (piece ++ replicate (x.zone - length piece) c.fill_of.result)) c.lay_number.ensures
    ∙ data_laid a.area.now a.from c.rule_of-rule.result x.lane.upid c.pointer_of-pointer.result c.data_header_of.result k x.zone b i c.fill_of.result
    piece (search rules) c.data_header_of.ensures cut c.fill_of.ensures
    ∙ ap₂ (λ (r p : ℕ). laid a.area.now a.from (data_header r x.lane.upid p ++ zone_of k x.zone b i)) c.rule_of-rule.ensures c.pointer_of-pointer.ensures
