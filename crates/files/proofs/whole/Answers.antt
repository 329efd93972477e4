-- `files::whole` meets its contract. A size that is not negative fits.
use mathlib.Core.Path.{◌≡◌, sym, ap, subst, ◌∙◌}
use mathlib.Core.Bool.{Bool, true, false, not}
use native.Mathlib.Nat.{lt_of_le_of_lt}
use lib.IntN.{ℤ, pos, nat_abs}
use lib.Dec.{T, lit<}
use lib.Signed.{lt_z, lt_z_no, yes_non_neg, nat_abs-le}
use mir.Syntax.{w64}
use mir.Val.{Fits, to_z, of_z}
use mir.ValLaws.{to_z-of_z}
use Rattle.files.proofs.Sizes.{below, from_zero}
use Rattle.files.proofs.whole.Goals as goal

pub returns-then-size-lt0 : goal.returns-then-size-lt0
returns-then-size-lt0 c =
    let z = c.args.size in
    below z (subst (λ (x : ℤ). lt_z x (pos 0) ≡ true) (to_z-of_z w64 z c.ranges.size) c.if-size-lt0.true)

pub overflow_cast-result : goal.overflow_cast-result
overflow_cast-result c =
    let z = c.args.size in
    let fits = c.ranges.size in (
      yes_non_neg {z = to_z w64 (of_z w64 z)} (lt_z_no (subst (λ (t : Bool). T (not t)) (sym c.if-size-lt0.false) tt)),
      subst (λ (x : ℤ). Fits w64 (nat_abs x)) (sym (to_z-of_z w64 z fits)) (record { fits = lt_of_le_of_lt (nat_abs-le z fits.sfits) (lit< tt) }),
    )

pub returns-else-size-lt0 : goal.returns-else-size-lt0
returns-else-size-lt0 c =
    let z = c.args.size in
    let e = to_z-of_z w64 z c.ranges.size in
    ap nat_abs e ∙ from_zero z (subst (λ (x : ℤ). lt_z x (pos 0) ≡ false) e c.if-size-lt0.false)
