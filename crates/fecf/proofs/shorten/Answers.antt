-- `fecf::shorten` meets its contract: the long register is carried on, and the fold is ended.
use mathlib.Core.Path.{refl, sym}
use Prim.Native.Nat.{◌-◌, ◌*◌}
use native.Mathlib.Omega.{arith}
use lib.ListN.{length}
use lib.Seq.{length-take-le}
use Rattle.fecf.proofs.Turns.{shortened}
use Rattle.fecf.proofs.shorten.Goals as goal

pub slice_bounds-carry-end : goal.slice_bounds-carry-end
slice_bounds-carry-end c =
    let a = c.args in
    sym (length-take-le (length a.octets.now - 16 * a.u) a.octets.now (omega arith))

pub carry-requires : goal.carry-requires
carry-requires c =
    let n = length c.args.octets.now - 16 * c.args.u in
    (c.requires.0, c.requires.1, omega (arith, length-take-le n c.args.octets.now (omega arith), c.requires.2, c.requires.3))

pub returns : goal.returns
returns c =
    let a = c.args in
    let xs = a.octets.now in
    let carry = c.carry in
    shortened a.u (length xs - 16 * a.u) xs a.area.now _ _ refl carry.ensures c.close_at.ensures
