-- `words::leave_out`: one place changes; past the 63 there is none.
use mathlib.Core.Path.{refl}
use mathlib.Core.Bool.{true}
use lib.Seq.{set_out}
use Rattle.words.specs.Asked.{left_out}
use borrow.Author.Rules.{rules}
use Rattle.words.proofs.leave_out.Goals as goal

pub returns-then-v-lt63 : goal.returns-then-v-lt63
unfolding left_out
returns-then-v-lt63 c = refl

pub returns-else-v-lt63 : goal.returns-else-v-lt63
unfolding left_out
returns-else-v-lt63 c = rw (set_out c.args.a.without c.args.v true (search rules))
