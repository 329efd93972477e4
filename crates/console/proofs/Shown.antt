-- A law of what is printed of a name: one octet more.
use Prim.Native.Nat.{ℕ, suc, ◌<◌}
use mathlib.Core.Path.{◌≡◌, refl, sym, ap, ◌∙◌}
use mathlib.Core.List.{List, [], ◌∷◌, ◌++◌}
use lib.ListN.{length, take, set, get_or}
use lib.Seq.{take-suc, take-suc-set}
use Rattle.console.specs.Shown.{plain_of, shown}

shown-more : (xs : List ℕ) (x : ℕ) → shown (xs ++ (x ∷ [])) ≡ shown xs ++ (plain_of x ∷ [])
unfolding shown
shown-more [] x = refl
shown-more (y ∷ xs) x = ap (λ (l : List ℕ). plain_of y ∷ l) (shown-more xs x)

-- The first i octets stand there, and the next is put behind them.
pub turn : (area name : List ℕ) (i x : ℕ) → i < length area → i < length name → x ≡ plain_of (get_or name i 0) → take i area ≡ shown (take i name)
    → take (suc i) (set area i x) ≡ shown (take (suc i) name)
turn area name i x h k e p =
    take-suc-set area i x h ∙ ap (λ (l : List ℕ). l ++ (x ∷ [])) p ∙ ap (λ (y : ℕ). shown (take i name) ++ (y ∷ [])) e
    ∙ sym (shown-more (take i name) (get_or name i 0)) ∙ ap shown (sym (take-suc name i 0 k))
