-- The lines that patterns and texts make.
use Prim.Native.Nat.{ℕ, ◌+◌, ◌≤◌}
use mathlib.Core.Path.{◌≡◌, ap, subst, ◌∙◌}
use mathlib.Core.List.{List, [], ◌∷◌, ◌++◌, append_assoc}
use lib.ListN.{length, length-append}
use native.Mathlib.Omega.{arith}
use Rattle.rules.specs.declared.Class.{Class}
use Rattle.rules.specs.declared.Answer.{Answer}
use Rattle.rules.specs.Listing.{text, decimal, word, amount, line}
use Rattle.listing_text.specs.Puts.{Put, filled, front}
use Rattle.listing_text.proofs.Laws.{put_then, length-decimal, length-word, length_front}

pub length-words : (c : Class) → length (text " " ++ word c ++ text " ") ≤ 9
unfolding text
length-words c = omega (arith, length-word c, length-append (text " " ++ word c) (text " "))

pub put_front : (k : ℕ) (c : Class) {area : List ℕ} {from : ℕ} {area₁ : List ℕ} {at : ℕ} {ws area₂ : List ℕ} {end : ℕ}
    → from + 29 ≤ length area → ws ≡ text " " ++ word c ++ text " " → Put (decimal k) area from area₁ at
    → Put ws area₁ at area₂ end → Put (front k c) area from area₂ end
unfolding front
put_front k c {area} {from} {area₁} {at} {ws} {area₂} {end} room e p q =
    let l : length (decimal k) ≤ 20 = length-decimal k in
    subst (λ (xs : List ℕ). Put xs area from area₂ end) (ap (λ (ys : List ℕ). decimal k ++ ys) e ∙ simp append_assoc)
    (put_then (decimal k) ws area from area₁ at area₂ end (omega arith) p q)

pub put-line : (k : ℕ) (a : Answer) {area : List ℕ} {from : ℕ} {area₁ : List ℕ} {at n : ℕ} {area₂ : List ℕ} {end : ℕ}
    → from + 71 ≤ length area → n ≡ amount a.class a.units → Put (front k a.class) area from area₁ at
    → Put (filled (text "# #\n") (n ∷ a.missing ∷ [])) area₁ at area₂ end → Put (line k a) area from area₂ end
unfolding line front filled text
put-line k a {area} {from} {area₁} {at} {n} {area₂} {end} room e p q =
    let l : length (front k a.class) ≤ 29 = length_front k a.class in
    subst (λ (xs : List ℕ). Put xs area from area₂ end) (rw e (simp append_assoc))
    (put_then (front k a.class) (filled (text "# #\n") (n ∷ a.missing ∷ [])) area from area₁ at area₂ end (omega arith) p q)
