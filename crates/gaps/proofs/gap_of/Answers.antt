-- `gaps::gap_of` meets its contract: the state that expects the next count, and what is dropped where frames are missing, are the rule's.
use Rattle.std.proofs.Common.{arith, rules}
use Rattle.rules.proofs.Octets.{pow256_pos}
use Rattle.rules.specs.Settings.{channel}
use Rattle.rules.specs.Reading.{expected, gap}
use Rattle.rules.specs.Calls.{missing_at}
use Rattle.gaps.proofs.Gaps.{takes, modulus_is, modulus_small}
use Rattle.gaps.proofs.gap_of.Goals as goal

pub offset_bounds-channels-c : goal.offset_bounds-channels-c
offset_bounds-channels-c c = let q = (takes c.args.r c.args.c c.requires.0 c.requires.1).eight in search rules

pub bounds-channels-c : goal.bounds-channels-c
bounds-channels-c c = (takes c.args.r c.args.c c.requires.0 c.requires.1).eight

pub overflow_add-next : goal.overflow_add-next
overflow_add-next c =
    let b = c.requires.2 in
    let d = modulus_small _ (takes c.args.r c.args.c c.requires.0 c.requires.1).seven in
    search rules

pub nonzero_rem-next : goal.nonzero_rem-next
nonzero_rem-next c =
    let m = modulus_is _ _ (takes c.args.r c.args.c c.requires.0 c.requires.1).seven c.modulus-values.ensures in
    let h = pow256_pos (channel c.args.r.setting c.args.c).octets in
    omega arith

pub with_expect-expects-requires : goal.with_expect-expects-requires
with_expect-expects-requires c = (takes c.args.r c.args.c c.requires.0 c.requires.1).eight

pub gap_by-requires : goal.gap_by-requires
gap_by-requires c = (takes c.args.r c.args.c c.requires.0 c.requires.1).few

pub returns : goal.returns
unfolding gap expected missing_at
returns c =
    let t = takes c.args.r c.args.c c.requires.0 c.requires.1 in
    rw (c.with_expect-expects.ensures, c.requires.3, modulus_is _ _ t.seven c.modulus-values.ensures) at c.gap_by.ensures
