-- A size with a sign, and without.
use Prim.Native.Nat.{◌<◌}
use mathlib.Core.Path.{◌≡◌, refl, sym}
use mathlib.Core.Bool.{true, false, false≢true}
use native.Mathlib.Omega.{arith}
use lib.IntN.{ℤ, pos, negsuc, nat_abs}
use lib.Signed.{lt_z}
use borrow.Author.Tests.{ltb-true}
use Rattle.files.specs.Known.{whole_of}

pub below : (z : ℤ) → lt_z z (pos 0) ≡ true → 0 ≡ whole_of z
unfolding whole_of
below (pos n) e = let h : n < 0 = ltb-true n 0 e in absurd (omega arith)
below (negsuc n) e = refl

pub from_zero : (z : ℤ) → lt_z z (pos 0) ≡ false → nat_abs z ≡ whole_of z
unfolding whole_of
from_zero (pos n) e = refl
from_zero (negsuc n) e = absurd (false≢true (sym e))
