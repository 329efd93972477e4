-- The second part is laid where the first ends, the record gives start, length and span, and the tally rises by one unit of both lengths.
use mathlib.Core.Path.{◌≡◌, refl, ap, ap₂, ◌∙◌}
use mathlib.Core.List.{List, ◌++◌}
use Prim.Native.Nat.{ℕ, ◌+◌, ◌-◌, ◌*◌}
use native.Mathlib.Omega.{arith}
use lib.ListN.{length, length-append}
use borrow.Author.Rules.{rules}
use Rattle.rules.specs.Areas.{laid, record_size}
use Rattle.rules.specs.Reading.{record_of}
use Rattle.rules.proofs.Areas.{laid-laid}
use Rattle.rules.proofs.Lanes.{carries-few}
use Rattle.lanes.proofs.Hands.{two_fit, one-handed}
use Rattle.lanes.proofs.units.hand_out.Goals as goal

pub overflow_add-end : goal.overflow_add-end
overflow_add-end c =
    let fit = two_fit c.args.first.now c.args.second.now c.args.span c.requires.1 in search rules

pub lay-requires : goal.lay-requires
lay-requires c =
    let fit = two_fit c.args.first.now c.args.second.now c.args.span c.requires.1 in search rules

pub lay-requires-2 : goal.lay-requires-2
lay-requires-2 c =
    let fit = two_fit c.args.first.now c.args.second.now c.args.span c.requires.1 in search rules

pub overflow_add-span : goal.overflow_add-span
overflow_add-span c =
    let fit = two_fit c.args.first.now c.args.second.now c.args.span c.requires.1 in
    let few = carries-few c.args.second.now in
    let more = c.carried-more.ensures in search rules

pub overflow_add-result : goal.overflow_add-result
overflow_add-result c =
    let g = c.well_formed.1.1.1.1.1 in search rules

pub returns : goal.returns
returns c =
    let a = c.args in
    let fit = two_fit a.first.now a.second.now a.span c.requires.1 in
    let n : length (a.first.now ++ a.second.now) ≡ length a.first.now + length a.second.now = length-append a.first.now a.second.now in
    let size : a.t.octets + length a.first.now + length a.second.now - a.t.octets ≡ length (a.first.now ++ a.second.now) = omega arith in
    one-handed
    (c.lay-2.ensures ∙ ap (λ (x : List ℕ). laid x (a.t.octets + length a.first.now) a.second.now) c.lay.ensures
    ∙ laid-laid a.units.now a.t.octets a.first.now (omega arith) a.second.now)
    (c.lay_record.ensures
    ∙ ap₂ (λ (k m : ℕ). laid a.records.now (record_size * a.t.count) (record_of a.info a.t.octets k (a.span + m))) size c.carried-more.ensures)
    refl (omega arith) refl refl refl
