-- `reader::read_on` meets its contract: zone and part are cut out as the sight says, and the step's promise is laid back into the held area.
use native.Mathlib.Omega.{arith}
use mathlib.Core.Path.{◌≡◌}
use Prim.Native.Nat.{◌+◌, ◌-◌, ◌*◌}
use Rattle.rules.specs.Areas.{part_size}
use Rattle.reader.proofs.Laid.{eight, channel-eight, inside, lent-here, few-dropped, laid-here}
use Rattle.reader.proofs.read_on.Goals as goal

pub terms_for-terms-requires : goal.terms_for-terms-requires
terms_for-terms-requires c =
    (channel-eight _ _ _ _ _ _ c.requires.0 c.args.x c.requires.1, eight _ _ _ _ _ _ c.requires.0)

pub slice_bounds-zone-end : goal.slice_bounds-zone-end
slice_bounds-zone-end c =
    inside _ _ _ _ _ _ c.requires.0 c.args.x c.requires.1

pub lane_step-led-requires : goal.lane_step-led-requires
lane_step-led-requires c =
    let x = c.args.x in
    let m : x.begin + x.size - x.begin ≡ x.size = omega arith in
    let n : part_size * c.args.l + part_size - part_size * c.args.l ≡ part_size = omega arith in
    lent-here _ _ _ _ _ _ c.requires.0 x c.requires.1 _ _ m n _ c.terms_for-terms.ensures _ c.slot_of-slot.ensures

pub taken_of-requires : goal.taken_of-requires
taken_of-requires c =
    let x = c.args.x in
    let m : x.begin + x.size - x.begin ≡ x.size = omega arith in
    let n : part_size * c.args.l + part_size - part_size * c.args.l ≡ part_size = omega arith in (
      eight _ _ _ _ _ _ c.requires.0,
      c.requires.0.dropped,
      few-dropped _ _ _ _ _ _ c.requires.0 x c.requires.1 _ _ m n _ c.terms_for-terms.ensures _ c.slot_of-slot.ensures _ c.lane_step-led.ensures.dropped,
    )

pub returns : goal.returns
returns c =
    let x = c.args.x in
    let m : x.begin + x.size - x.begin ≡ x.size = omega arith in
    let n : part_size * c.args.l + part_size - part_size * c.args.l ≡ part_size = omega arith in
    laid-here _ _ _ _ _ _ c.requires.0 x c.requires.1 _ _ m n _ c.terms_for-terms.ensures _ c.slot_of-slot.ensures _ _ _ _ _ c.lane_step-led.ensures
    c.taken_of.ensures
