-- `setting::every_two` meets its contract: the loop keeps that each of those before number i passes beside each one before it.
use Rattle.std.proofs.Common.{ℕ, ◌<◌, ◌≡◌, true, Bool, get_or}
use Rattle.rules.specs.Tests.{every}
use Rattle.setting.proofs.every_two.Given as goal

abbrev pub invariant-loop-i : goal.invariant-loop-i
invariant-loop-i g l =
    (p : _ → _ → Bool) (z : _) → ((a b : _) (t : Bool) → goal.F-post g l.pass a b t → t ≡ p a b)
    → (k : ℕ) → k < l.i → every k (λ j. p (get_or l.xs j z) (get_or l.xs k z)) ≡ true
