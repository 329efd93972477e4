-- A text that is found good gives a valid setting.
use Prim.Native.Nat.{ℕ}
use mathlib.Core.Path.{◌≡◌, refl}
use mathlib.Core.Bool.{Bool, true, false, cond}
use mathlib.Core.List.{List}
use Rattle.std.specs.Prelude.{Option, Some, None, Result, Ok, Err}
use Rattle.rules.specs.declared.Setting.{Setting}
use Rattle.rules.specs.Settings.{setting_ok}
use Rattle.setting_text.specs.declared.Says.{Says}
use Rattle.setting_text.specs.declared.Finding.{Finding}
use Rattle.setting_text.specs.declared.Finding.TheVariants as finds
use Rattle.setting_text.specs.declared.Draft.{Draft}
use Rattle.setting_text.specs.Texts.{lines}
use Rattle.setting_text.specs.Facts.{then, gather, nothing, completed, lacking, judged, zoneless, parsed}

module _ (s : Setting) where
  judged_good : (p : Option ℕ) (r : Setting) → judged p r ≡ Ok s → setting_ok s ≡ true
  judged_good (Some i) r e = cc
  judged_good None r e = go (setting_ok r) refl e
    where
      go : (b : Bool) → setting_ok r ≡ b → cond b (Ok r) (Err finds.Other) ≡ Ok s → setting_ok s ≡ true
      go true k q = let z : r ≡ s = cc in rw z at k
      go false k q = cc

  complete_good : (r : Result Setting Says) → then (lacking r) (λ (t : Setting). judged (zoneless t) t) ≡ Ok s → setting_ok s ≡ true
  complete_good (Ok r) e = judged_good (zoneless r) r e
  complete_good (Err m) e = cc

  gathered_good : (r : Result Draft Finding)
      → then r (λ (d : Draft). then (lacking (completed d)) (λ (t : Setting). judged (zoneless t) t)) ≡ Ok s → setting_ok s ≡ true
  gathered_good (Ok d) e = complete_good (completed d) e
  gathered_good (Err f) e = cc

pub good_valid : (t : List ℕ) (s : Setting) → parsed t ≡ Ok s → setting_ok s ≡ true
unfolding parsed
good_valid t s e = gathered_good s (gather 1 nothing (lines t)) e
