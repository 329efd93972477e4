-- The first eight octets of two parts that follow each other, laid into an area of their own, measure what both measure.
use mathlib.Core.Path.{◌≡◌, refl, sym, ap, ap₂, ◌∙◌}
use mathlib.Core.List.{List, ◌++◌, append_assoc}
use Prim.Native.Nat.{ℕ, ◌+◌, ◌-◌, ◌<◌, min}
use native.Mathlib.Omega.{arith}
use lib.ListN.{length, take, drop, replicate, length-append, take-append-drop}
use lib.Seq.{length-take-le, take_all}
use Rattle.rules.specs.Areas.{laid}
use Rattle.rules.specs.Packets.{measure}
use Rattle.rules.proofs.Areas.{laid-front, laid_next, length-laid}
use Rattle.rules.proofs.Measures.{measure-eight}
use Rattle.rules.proofs.Tests.{split}

module _ (first second : List ℕ) {m : ℕ} (is : m ≡ min (length second) (8 - length first)) (few : length first < 8) where
  pub more-length : m ≡ length (take m second)
  more-length = sym (length-take-le m second (omega arith))

  pub front_length : length (first ++ take m second) ≡ length first + m
  front_length = length-append first (take m second) ∙ ap (λ (n : ℕ). length first + n) (sym more-length)

  -- The area stays as long as it is.
  pub first-laid : {a : List ℕ} → a ≡ laid (replicate 8 0) 0 first → length a ≡ 8
  first-laid e = ap length e ∙ length-laid (replicate 8 0) 0 first (omega arith)

  -- Octets past the eighth say nothing.
  front-measure : measure (first ++ take m second) ≡ measure (first ++ second)
  front-measure =
      split (length second) m (λ h. ap (λ (xs : List ℕ). measure (first ++ xs)) (take_all m second h))
      (λ h.
      sym (measure-eight (first ++ take m second) (drop m second) (omega (arith, front_length)))
      ∙ ap measure (append_assoc first (take m second) (drop m second) ∙ ap (λ (xs : List ℕ). first ++ xs) (take-append-drop m second)))

  module _ {a b : List ℕ} (one : a ≡ laid (replicate 8 0) 0 first) (two : b ≡ laid a (length first) (take m second)) where
    pub front-laid : take (length first + m) b ≡ first ++ take m second
    front-laid =
        ap₂ take (sym front_length)
        (two ∙ ap (λ (xs : List ℕ). laid xs (length first) (take m second)) one
        ∙ laid_next (replicate 8 0) first (take m second) (length first) refl (omega arith))
        ∙ laid-front (replicate 8 0) (first ++ take m second)

    pub front-is : measure (take (length first + m) b) ≡ measure (first ++ second)
    front-is = ap measure front-laid ∙ front-measure
