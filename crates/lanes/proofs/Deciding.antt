-- What becomes of octets, told by tests that need no sum.
use mathlib.Core.Path.{◌≡◌, refl}
use Prim.Native.Nat.{ℕ}
use mathlib.Core.Logic.{⊎_elim}
use mathlib.Core.List.{[], ◌∷◌}
use types.Run.{OneOf}
use Rattle.rules.specs.declared.Family.{Family}
use Rattle.rules.specs.declared.Measure.{Measure}
use Rattle.rules.specs.declared.Measure.TheVariants.{Lacks, Packet, Idle, Unreadable}
use Rattle.rules.specs.declared.Next.TheVariants.{Lose}
use Rattle.rules.specs.Reading.{next_of}

none_of : (t a b d : ℕ) → (t ≡ a → ⊥) → (t ≡ b → ⊥) → (t ≡ d → ⊥) → OneOf (a ∷ b ∷ d ∷ []) t → ⊥
none_of t a b d p q r o = ⊎_elim p (⊎_elim q r) o

-- What is no packet, no idle one, and lacks nothing, is unreadable, and is dropped.
pub next-lost : (longest : ℕ) (m : Measure) (n : ℕ) → ((f : Family) (k : ℕ) → m ≡ Packet f k → ⊥)
    → ((k : ℕ) → m ≡ Idle k → ⊥) → ((k : ℕ) → m ≡ Lacks k → ⊥) → Lose ≡ next_of longest m n
unfolding next_of
next-lost longest (Lacks k) n p q r = absurd (r k refl)
next-lost longest (Packet f k) n p q r = absurd (p f k refl)
next-lost longest (Idle k) n p q r = absurd (q k refl)
next-lost longest Unreadable n p q r = refl
