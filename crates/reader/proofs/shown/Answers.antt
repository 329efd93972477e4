-- `reader::shown` meets its contract: each case of what was found as the paper has it.
use mathlib.Core.Path.{sym, ap, ◌∙◌}
use Rattle.judge.specs.declared.Sighting.{Sighting}
use Rattle.reader.specs.Finds.{shown_by}
use Rattle.reader.proofs.shown.Goals as goal

pub returns-in-Err : goal.returns-in-Err
returns-in-Err c = c.unread.ensures ∙ rw (c.in-Err.is, c.number.ensures)

pub returns-in-Idle : goal.returns-in-Idle
returns-in-Idle c =
    let m = c.in-Ok.v.missing in
    c.unread-in-Idle.ensures ∙ rw c.in-Ok.is (sym (ap (λ (x : Sighting). shown_by x m) c.in-Idle.is))

pub returns-in-Seen : goal.returns-in-Seen
returns-in-Seen c =
    let m = c.in-Ok.v.missing in
    rw (c.class_on.ensures, c.in-Ok.is) (sym (ap (λ (x : Sighting). shown_by x m) c.in-Seen.is))

pub returns-in-Repeat : goal.returns-in-Repeat
returns-in-Repeat c =
    let m = c.in-Ok.v.missing in
    c.unread-in-Repeat.ensures ∙ rw c.in-Ok.is (sym (ap (λ (x : Sighting). shown_by x m) c.in-Repeat.is))
