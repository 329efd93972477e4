-- `reader::choices::left_out` meets its contract: a frame of no channel stays, any other goes by its virtual channel.
use Rattle.std.proofs.Common.{◌≡◌, ℕ, Bool, false, Option, None, Some, get_or, rules}
use Rattle.std.specs.Option.{MatchOption}
use Rattle.rules.specs.Tests.{at}
use Rattle.rules.specs.Settings.{channel}
use Rattle.rules.specs.Passes.{left_out}
use Rattle.reader.proofs.choices.left_out.Goals as goal

by_place : (p : Option ℕ) (b : Bool) (t : ℕ → Bool) (Q : ℕ → Type 0) → ((i : ℕ) → Q i → b ≡ t i) → MatchOption p (b ≡ false) Q → b ≡ at p t
by_place None b t Q h e = e
by_place (Some i) b t Q h e = h i e

pub returns : goal.returns
unfolding left_out
returns c =
    let a = c.args in
    by_place a.o.channel c.is_some_and.result (λ (i : ℕ). get_or a.without (channel a.s i).vc false) _ (λ i q. search rules) c.is_some_and.ensures
