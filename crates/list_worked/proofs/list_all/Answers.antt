use Rattle.list_worked.proofs.Carried.{begins-from}
use Rattle.list_worked.proofs.list_all.Goals as goal

pub loop-k-init : goal.loop-k-init
loop-k-init c = begins-from _ _ c.worked_setting.ensures c.set_up.ensures
