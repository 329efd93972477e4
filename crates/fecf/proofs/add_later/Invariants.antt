-- `fecf::add_later` meets its contract: after j turns the first j octets have theirs added.
use Rattle.std.proofs.Common.{◌≡◌, take, drop}
use Rattle.fecf.specs.Folds.{plus}
use Rattle.fecf.proofs.add_later.Given as goal

abbrev pub invariant-loop-j : goal.invariant-loop-j
invariant-loop-j l = l.area ≡ plus (take l.j (drop l.d l.initial.area)) l.initial.area
