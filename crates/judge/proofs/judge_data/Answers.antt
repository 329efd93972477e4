-- `judge::judge_data` meets its contract: the data field is the frame's rest behind the insert zone, and what it says is put into the sight.
use native.Mathlib.Omega.{arith}
use mathlib.Core.Path.{sym, ap}
use Rattle.judge.proofs.Places.{fits, lane-eight}
use Rattle.judge.proofs.Sights.{refused-12, seen-is}
use Rattle.judge.specs.Sights.{sight_of}
use Rattle.judge.proofs.judge_data.Goals as goal

pub offset_bounds-lanes-l : goal.offset_bounds-lanes-l
offset_bounds-lanes-l c = omega (arith, lane-eight _ _ c.requires.0.ok c.requires.1)

pub bounds-lanes-l : goal.bounds-lanes-l
bounds-lanes-l c = lane-eight _ _ c.requires.0.ok c.requires.1

pub offset_bounds-channels-c : goal.offset_bounds-channels-c
offset_bounds-channels-c c = omega (arith, (fits _ _ c.requires.0.ok c.requires.0.listed).eight)

pub bounds-channels-c : goal.bounds-channels-c
bounds-channels-c c = (fits _ _ c.requires.0.ok c.requires.0.listed).eight

pub overflow_add-at : goal.overflow_add-at
overflow_add-at c =
    let p = c.requires.0 in
    let q = fits _ _ p.ok p.listed in
    omega (arith, q.seven)

pub overflow_add-at-2 : goal.overflow_add-at-2
overflow_add-at-2 c =
    let p = c.requires.0 in
    let q = fits _ _ p.ok p.listed in
    omega (arith, q.seven, q.insert)

pub slice_bounds-data_of-count : goal.slice_bounds-data_of-count
slice_bounds-data_of-count c =
    let p = c.requires.0 in
    let q = fits _ _ p.ok p.listed in
    omega (arith, q.inside, p.whole)

pub slice_bounds-data_of-start : goal.slice_bounds-data_of-start
slice_bounds-data_of-start c =
    let p = c.requires.0 in
    let q = fits _ _ p.ok p.listed in
    omega (arith, q.inside, p.whole)

pub returns-then-data_wrong : goal.returns-then-data_wrong
unfolding sight_of
returns-then-data_wrong c =
    let a = c.args in
    let e = refused-12 a.s a.frame.now a.c a.l _ _ c.zone_for-size.ensures
    c.data_of-d.ensures _ c.data_wrong.ensures c.if-data_wrong.true in
    ap (sight_of a.s a.frame.now) (sym e)

pub overflow_add-result : goal.overflow_add-result
overflow_add-result c =
    let p = c.requires.0 in
    let q = fits _ _ p.ok p.listed in omega (arith, q.seven, q.insert)

pub returns : goal.returns
returns c =
    let a = c.args in
    let p = c.requires in
    seen-is a.s a.frame.now a.c a.l _ _ c.zone_for-size.ensures
    c.data_of-d.ensures _ c.data_wrong.ensures c.if-data_wrong.false
    p.2 a.k p.3 _ c.points_to.ensures
