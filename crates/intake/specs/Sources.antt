-- Where octets come from.
use Rattle.std.specs.Prelude.{Bool, true, false}
use Rattle.intake.specs.declared.Source.{Source}
use Rattle.intake.specs.declared.Source.TheVariants.{Input, Of, Nothing}

-- Whether there is something to read from.
abbrev pub is_something : Source → Bool
is_something (Input i) = true
is_something (Of f) = true
is_something Nothing = false
