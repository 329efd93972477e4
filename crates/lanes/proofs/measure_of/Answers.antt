-- The first part has eight octets, which say all; or both have their first eight laid side by side.
use mathlib.Core.Path.{sym, ap, ◌∙◌}
use native.Mathlib.Omega.{arith}
use lib.ListN.{length}
use Rattle.rules.proofs.Measures.{measure-eight}
use Rattle.lanes.proofs.Fronts.{more-length, front_length, first-laid, front-laid, front-is}
use Rattle.lanes.proofs.measure_of.Goals as goal

pub returns-then-h-ge8 : goal.returns-then-h-ge8
returns-then-h-ge8 c =
    let a = c.args in
    c.measure_at.ensures ∙ sym (measure-eight a.first.now a.second.now c.if-h-ge8.true)

pub slice_bounds-lay-end-3 : goal.slice_bounds-lay-end-3
slice_bounds-lay-end-3 c =
    let a = c.args in
    more-length a.first.now a.second.now c.least-more.ensures c.if-h-ge8.false

pub lay-requires-2 : goal.lay-requires-2
lay-requires-2 c =
    let a = c.args in
    let m = more-length a.first.now a.second.now c.least-more.ensures c.if-h-ge8.false in
    let l = first-laid a.first.now a.second.now c.least-more.ensures c.if-h-ge8.false c.lay.ensures in
    omega (arith, m, l, c.least-more.ensures)

pub slice_bounds-measure_at-end : goal.slice_bounds-measure_at-end
slice_bounds-measure_at-end c =
    let a = c.args in
    sym
    (ap length
    (front-laid a.first.now a.second.now c.least-more.ensures c.if-h-ge8.false
    c.lay.ensures c.lay-2.ensures)
    ∙ front_length a.first.now a.second.now c.least-more.ensures c.if-h-ge8.false)

pub returns : goal.returns
returns c =
    let a = c.args in
    c.measure_at-2.ensures
    ∙ front-is a.first.now a.second.now c.least-more.ensures c.if-h-ge8.false
    c.lay.ensures c.lay-2.ensures
