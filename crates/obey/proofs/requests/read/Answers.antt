-- `obey::requests::read` meets its contract. The reader is the one on the desk; no more is lent than there is.
use Rattle.obey.proofs.Desks.{sizes_fit, read-on}
use Rattle.obey.proofs.requests.read.Goals as goal

pub read_in-t-requires : goal.read_in-t-requires
read_in-t-requires c = sizes_fit _ _ _ _ _ c.sizes_in-z.ensures

pub put_taken-requires : goal.put_taken-requires
put_taken-requires c =
    c.requires.1

pub returns : goal.returns
returns c =
    let a = c.args in
    read-on a.q.now _ a.desk.now a.held.now a.units.now a.records.now _ _ _ _ _ _ _ c.sizes_in-z.ensures
    c.reader_in-r.ensures c.frame_in-frame.ensures c.read_in-t.ensures
    c.put_taken.ensures
