-- From read to read.
use Prim.Native.Nat.{ℕ, ◌≤◌}
use native.Mathlib.Omega.{arith}
use mathlib.Core.Path.{◌≡◌, refl, sym, ap, ◌∙◌}
use mathlib.Core.List.{List}
use lib.ListN.{length, take}
use lib.Seq.{take-take, length-take-le}
use Rattle.intake.specs.declared.Window.{Window}
use Rattle.intake.specs.Windows.{Refilled}

pub refilled-none : (w : Window) (area : List ℕ) → w.have ≤ length area → Refilled w area w area
refilled-none w area h = record { fits = h; more = omega arith; at = refl; kept = refl }

pub refilled-then : {w : Window} {a : List ℕ} {x : Window} {b : List ℕ} {y : Window} {d : List ℕ}
    → Refilled w a x b → Refilled x b y d → length b ≡ length a → Refilled w a y d
refilled-then {w} {a} {x} {b} {y} {d} p q l =
    record {
      fits = omega (arith, q.fits, l);
      more = omega (arith, p.more, q.more);
      at = q.at ∙ p.at;
      kept =
          sym (take-take w.have x.have d p.more) ∙ ap (take w.have) q.kept ∙ take-take w.have x.have b p.more ∙ p.kept;
    }

-- What was left in a window still stands at the front of the next.
pub still : {w : Window} {area : List ℕ} {w' : Window} {area' : List ℕ} → w.have ≤ length area → Refilled w area w' area'
    → take (length (take w.have area)) (take w'.have area') ≡ take w.have area
still {w} {area} {w'} {area'} h r =
    ap (λ (n : ℕ). take n (take w'.have area')) (length-take-le w.have area h) ∙ take-take w.have w'.have area' r.more ∙ r.kept
