-- `obey::requests::set_reader` meets its contract. The setting is that of the reader on the desk.
use mathlib.Core.Path.{◌∙◌, ap}
use Rattle.rules.specs.Calls.{set_up_reader}
use Rattle.obey.specs.Requests.{heard_on}
use Rattle.rules.proofs.Promises.{reader-starts-is}
use Rattle.obey.proofs.requests.set_reader.Goals as goal

pub returns : goal.returns
returns c =
    c.put_heard.ensures ∙ ap (heard_on _)
    (reader-starts-is _ _ c.set_up-t.ensures ∙ ap set_up_reader c.setting_in.ensures)
