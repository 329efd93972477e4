-- `reader::again` meets its contract: what was not seen stays as it is.
-- Of what was seen the channel decides: the frame is a repeat where its count is the last one taken there.
use mathlib.Core.Path.{◌≡◌, refl, sym, ◌∙◌}
use Rattle.rules.specs.declared.Reader.{Reader}
use Rattle.judge.specs.declared.Sight.{Sight}
use Rattle.judge.specs.declared.Sighting.{Sighting}
use Rattle.judge.specs.declared.Sighting.TheVariants.{Idle, Seen, Repeat}
use Rattle.reader.specs.Finds.{again_of}
use Rattle.reader.proofs.again.Goals as goal

not_seen : (r : Reader) (v : Sighting) → ((x : Sight) → v ≡ Seen x → ⊥) → v ≡ again_of r v
not_seen r Idle o = refl
not_seen r (Seen x) o = absurd (o x refl)
not_seen r (Repeat c) o = refl

pub returns-in_default : goal.returns-in_default
returns-in_default c = not_seen c.args.r c.args.v c.in_default.not-Seen

pub repeats_at-requires : goal.repeats_at-requires
repeats_at-requires c = rw c.in-Seen.is at c.requires

pub returns-then-repeats_at : goal.returns-then-repeats_at
returns-then-repeats_at c = rw (c.in-Seen.is, sym c.repeats_at.ensures ∙ c.if-repeats_at.true) refl

pub returns : goal.returns
returns c = rw (c.in-Seen.is, sym c.repeats_at.ensures ∙ c.if-repeats_at.false) refl
