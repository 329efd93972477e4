-- From the first octet that is no blank to the end of the last.
use Rattle.setting_text.proofs.Quotes.{words_part}
use Rattle.setting_text.proofs.quoting.words_at.Goals as goal

pub returns : goal.returns
returns c =
    let f = c.until_stop-from.ensures in
    let e = c.end_of.ensures in
    rw c.max-to.ensures (words_part _ _ _ f.counts f.within e.0 e.1)
