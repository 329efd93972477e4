-- `outputs::Run::name_of`: what its callees promise is enough.
use Rattle.outputs.proofs.Endings.{named}
use Prim.Native.Nat.{ℕ}
use lib.ListN.{length-replicate}
use Rattle.outputs.proofs.Run.name_of.Goals as goal

pub returns : goal.returns
returns c =
    named _ _ _ _ (length-replicate {A = ℕ} 4147 0) c.put_prefix-n.ensures c.put_ending-at.ensures c.put_mark-end.ensures
