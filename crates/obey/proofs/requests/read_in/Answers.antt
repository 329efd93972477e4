-- `obey::requests::read_in` meets its contract. The first octets of each area are lent, and the others stay.
use mathlib.Core.Path.{sym, ap}
use lib.Seq.{length-take-le}
use Rattle.rules.specs.Calls.{Got}
use Rattle.obey.specs.Requests.{read_in, whole}
use Rattle.rules.proofs.Promises.{read_is}
use Rattle.obey.proofs.requests.read_in.Goals as goal

pub slice_bounds-take-end-2 : goal.slice_bounds-take-end-2
slice_bounds-take-end-2 c = sym (length-take-le _ _ c.requires.0)

pub slice_bounds-take-end-4 : goal.slice_bounds-take-end-4
slice_bounds-take-end-4 c = sym (length-take-le _ _ c.requires.1)

pub slice_bounds-take-end-6 : goal.slice_bounds-take-end-6
slice_bounds-take-end-6 c =
    sym (length-take-le _ _ c.requires.2)

pub returns : goal.returns
unfolding read_in whole
returns c =
    let a = c.args in
    ap (λ (g : Got). whole a.z g a.held.now a.units.now a.records.now) (read_is _ _ _ _ _ _ c.take.ensures)
