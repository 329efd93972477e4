-- `fecf::add_first` meets its contract: after j turns the first j octets are added.
use Rattle.std.proofs.Common.{◌≡◌, take}
use Rattle.fecf.specs.Folds.{plus}
use Rattle.fecf.proofs.add_first.Given as goal

abbrev pub invariant-loop-j : goal.invariant-loop-j
invariant-loop-j l = l.area ≡ plus (take l.j l.octets) l.initial.area
