-- Whether packets are all of a batch, and where they start, found in one pass.
use Rattle.std.specs.Prelude.{◌≡◌, Bool, true, false, List, [], ◌∷◌, ℕ, ◌+◌, ◌-◌, ◌≤◌, length, drop}
use Rattle.rules.specs.declared.Kind.{Kind}
use Rattle.rules.specs.declared.Kind.TheVariants.{Packets, Access}
use Rattle.std.specs.Prelude.{Option}
use Rattle.std.specs.Prelude.{Some, None}
use Rattle.rules.specs.Tests.{◌=?◌, all}
use Rattle.rules.specs.Areas.{joined}
use Rattle.rules.specs.Packets.{packets}
use Rattle.rules.specs.Writing.{none_above, batch_ok, start_from}

-- These octets are whole packets of both families back to back, none idle, none above the longest.
abbrev pub stand : ℕ → List ℕ → Bool
stand longest xs = all (length (joined (packets xs)) =? length xs ∷ none_above longest (packets xs) ∷ [])

-- Packets from octet `from` on were passed, up to the first that starts at octet `to` or later: at octet i.
pub record Passes (longest : ℕ) (b : List ℕ) (from to i : ℕ) : Type 0 where
  pub reached : to ≤ i
  pub inside : i ≤ length b
  pub stands : stand longest (drop from b) ≡ stand longest (drop i b)
  pub starts : from + start_from (packets (drop from b)) (to - from) ≡ i

-- Or one on the way is not as it should be.
abbrev pub Passed : ℕ → List ℕ → ℕ → ℕ → Option ℕ → Type 0
Passed longest b from to (Some i) = Passes longest b from to i
Passed longest b from to None = stand longest (drop from b) ≡ false

-- The octet at which the first packet from octet `from` on starts; of an access unit nothing is said.
abbrev pub StartsAt : Kind → List ℕ → ℕ → ℕ → Type 0
StartsAt Packets b from i = from ≤ length b → start_from (packets b) from ≡ i
StartsAt Access b from i = Unit {0}

-- Of octets that stand the test, that octet; or nowhere.
abbrev pub Stands : ℕ → List ℕ → ℕ → Option ℕ → Type 0
Stands longest b from (Some i) = (stand longest b ≡ true) × StartsAt Packets b from i
Stands longest b from None = stand longest b ≡ false

-- Of a batch that keeps the rule of its lane's kind, that octet; or nowhere.
abbrev pub Keeps : Kind → ℕ → List ℕ → ℕ → Option ℕ → Type 0
Keeps k longest b from (Some i) = (batch_ok k longest b ≡ true) × StartsAt k b from i
Keeps k longest b from None = batch_ok k longest b ≡ false
