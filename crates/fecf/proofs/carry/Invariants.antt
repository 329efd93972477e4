-- `fecf::carry` meets its contract: over the octets that are left, the long register so far comes to what it has to be.
use Rattle.std.proofs.Common.{◌≡◌, ◌*◌, take, drop}
use Rattle.fecf.specs.Folds.{carried}
use Rattle.fecf.proofs.carry.Given as goal

abbrev pub invariant-loop-j : goal.invariant-loop-j
invariant-loop-j l = carried l.u (take (16 * l.u) l.initial.area) l.octets ≡ carried l.u (take (16 * l.u) (drop l.j l.area)) (drop l.j l.octets)
