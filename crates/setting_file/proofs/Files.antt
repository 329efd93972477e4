-- The setting of a file is valid.
use mathlib.Core.Path.{◌≡◌, refl}
use mathlib.Core.Bool.{Bool, true, false, cond}
use mathlib.Core.List.{List}
use Prim.Native.Nat.{ℕ}
use lib.ListN.{length, take}
use Rattle.std.specs.Prelude.{Option, Some, None, Result, Ok, Err}
use Rattle.rules.specs.declared.Setting.{Setting}
use Rattle.rules.specs.Tests.{◌≤?◌}
use Rattle.rules.specs.Settings.{setting_ok}
use Rattle.setting_text.specs.declared.Finding.{Finding}
use Rattle.setting_text.specs.Facts.{parsed}
use Rattle.setting_text.proofs.Valid.{good_valid}
use Rattle.setting_file.specs.declared.Wrong.TheVariants.{TooLong}
use Rattle.setting_file.specs.Files.{parsed_to, judged}

module _ (s : Setting) where
  text : (t : Bool) (xs : List ℕ) → cond t (parsed_to (parsed xs)) (Err TooLong) ≡ Ok s → setting_ok s ≡ true
  text false xs e = cc
  text true xs e = go (parsed xs) refl e
    where
      go : (r : Result Setting Finding) → parsed xs ≡ r → parsed_to r ≡ Ok s → setting_ok s ≡ true
      go (Ok x) p q = let z : x ≡ s = cc in rw z at (good_valid xs x p)
      go (Err f) p q = cc

  pub judged_good : (filled : Option ℕ) (area : List ℕ) → judged filled area ≡ Ok s → setting_ok s ≡ true
  judged_good (Some n) area e = text (length (take n area) ≤? 65536) (take n area) e
  judged_good None area e = cc
