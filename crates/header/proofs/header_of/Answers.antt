-- `header::header_of` meets its contract: the fields that are written are those of the rules, in the same order.
use Rattle.std.proofs.Common.{◌≡◌, Bool, true, false, refl}
use Rattle.std.specs.Int.{from_bool}
use Rattle.rules.specs.Octets.{flag}
use Rattle.rules.specs.Frames.{header}
use Rattle.header.specs.Heads.{head_fields}
use Rattle.header.proofs.header_of.Goals as goal

as_flag : (b : Bool) → from_bool b ≡ flag b
as_flag true = refl
as_flag false = refl

pub returns : goal.returns
unfolding head_fields header
returns c = rw (c.head_number.ensures, c.from.ensures, as_flag c.args.c.ocf)
