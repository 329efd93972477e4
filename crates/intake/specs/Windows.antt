-- A window on a file: what of it stands at the front of an area.
use Rattle.std.specs.Prelude.{ℕ, ◌≤◌, ◌≡◌, List, length, take}
use Rattle.intake.specs.declared.Window.{Window}

-- What was read stands behind what the area held, and that is as it was.
pub record Refilled (w : Window) (area : List ℕ) (w' : Window) (area' : List ℕ) : Type 0 where
  pub fits : w'.have ≤ length area
  pub more : w.have ≤ w'.have
  pub at : w'.at ≡ w.at
  pub kept : take w.have area' ≡ take w.have area
