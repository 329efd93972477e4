-- `reader::short_refusal` meets its contract: by whether the state is valid.
use mathlib.Core.Path.{refl, sym, ◌∙◌}
use Rattle.reader.proofs.short_refusal.Goals as goal

pub returns-then-reader_ok : goal.returns-then-reader_ok
returns-then-reader_ok c = rw (sym c.reader_ok.ensures ∙ c.if-reader_ok.true) refl

pub returns-else-reader_ok : goal.returns-else-reader_ok
returns-else-reader_ok c = rw (sym c.reader_ok.ensures ∙ c.if-reader_ok.false) refl
