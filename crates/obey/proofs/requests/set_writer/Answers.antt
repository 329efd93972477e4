-- `obey::requests::set_writer` meets its contract. The setting is that of the writer on the desk.
use mathlib.Core.Path.{◌∙◌, ap}
use Rattle.rules.specs.Calls.{set_up_writer}
use Rattle.obey.specs.Requests.{sent_on}
use Rattle.rules.proofs.Promises.{writer-starts-is}
use Rattle.obey.proofs.requests.set_writer.Goals as goal

pub returns : goal.returns
returns c =
    c.put_sent.ensures ∙ ap (sent_on _)
    (writer-starts-is _ _ c.set_up-t.ensures ∙ ap set_up_writer c.setting_in.ensures)
