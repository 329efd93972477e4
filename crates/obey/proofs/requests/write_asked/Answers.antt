-- `obey::requests::write_asked` meets its contract. Lane, batch, insert octets and OCF octets are those of the request.
use Rattle.obey.proofs.Desks.{asked_is}
use Rattle.rules.proofs.Promises.{write-is}
use Rattle.obey.proofs.requests.write_asked.Goals as goal

pub returns : goal.returns
returns c =
    asked_is c.args.q.now _ _ _ _ c.args.w _ _ _ _ _ c.word_in-l.ensures
    c.word_in.ensures c.part-batch.ensures c.word_in-2.ensures
    c.part-insert.ensures c.word_in-3.ensures c.part-ocf.ensures
    (write-is _ _ _ _ _ _ _ c.write.ensures)
