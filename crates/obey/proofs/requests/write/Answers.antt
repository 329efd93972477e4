-- `obey::requests::write` meets its contract. The writer is the one on the desk, and the area lent goes back to its place.
use Rattle.obey.proofs.Desks.{written_is}
use Rattle.obey.proofs.requests.write.Goals as goal

pub returns : goal.returns
returns c =
    let a = c.args in
    written_is a.q.now a.desk.now _ _ _ _ _ _ c.requires.1 c.writer_in-w.ensures
    c.word_in.ensures c.least-to.ensures c.write_asked-t.auto.area
    c.write_asked-t.ensures c.put_sent.ensures
