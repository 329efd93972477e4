-- `obey::requests::look` meets its contract. The reader is the one on the desk; its answer is laid, and nothing else.
use Rattle.rules.proofs.Promises.{look_is}
use Rattle.obey.proofs.Desks.{look-on}
use Rattle.obey.proofs.requests.look.Goals as goal

pub returns : goal.returns
returns c =
    let a = c.args in
    look-on a.q.now _ a.desk.now _ _ _ _ c.reader_in.ensures c.rest.ensures (look_is _ _ _ c.look-o.ensures)
    c.look_row.ensures c.put_row.ensures
