-- A run as lane l of channel c sees it: which frames of its channel are gone, and what is due.
use mathlib.Core.Path.{◌≡◌, refl}
use Prim.Native.Nat.{ℕ, ◌+◌, ◌≤◌, ◌<◌}
use native.Mathlib.Omega.{arith}
use mathlib.Core.Bool.{Bool, true, false, cond}
use mathlib.Core.List.{List, [], ◌∷◌}
use borrow.Author.Tests.{ne_eqb, eq-eqb, le-leb, lt-leb}
use Rattle.rules.specs.Tests.{◌≤?◌, ◌=?◌}
use Rattle.rules.proofs.Tests.{same}
use Rattle.link.specs.Link.{Frame}
use Rattle.link.specs.Due.{back_to, none_gone, clean, frames_on, span_back, due_in}
use Rattle.link.specs.Demand.{kept_on}
use Rattle.link.proofs.Spans.{onward, either, ends-none}

module _ (l c : ℕ) (f : Frame) (past : List Frame) where
  -- A frame of the channel is gone.
  pub clean-gone : f.channel ≡ c → f.kept ≡ false → (a : ℕ) → clean l c (f ∷ past) a ≡ false
  unfolding clean back_to none_gone
  clean-gone p q a = rw (eq-eqb f.channel c p, q)

  -- The frame is none of the channel that is gone.
  abbrev pub Safe : Type 0
  Safe = cond (f.channel =? c) f.kept true ≡ true

  pub safe-kept : f.kept ≡ true → Safe
  safe-kept q = rw q (either (f.channel =? c) true)

  pub safe-apart : (f.channel ≡ c → ⊥) → Safe
  safe-apart n = rw (ne_eqb f.channel c n)

  -- Such a frame of another lane; of the lane itself, for a unit that begins in it, and for one that began before.
  pub clean-other : Safe → (f.lane ≡ l → ⊥) → (a : ℕ) → clean l c (f ∷ past) a ≡ clean l c past a
  unfolding clean back_to none_gone
  clean-other q n a = rw (q, ne_eqb f.lane l n)

  pub clean-now : Safe → f.lane ≡ l → (a : ℕ) → f.start ≤ a → clean l c (f ∷ past) a ≡ true
  unfolding clean back_to none_gone
  clean-now q e a h = rw (q, eq-eqb f.lane l e, le-leb f.start a h)

  pub clean-before : Safe → f.lane ≡ l → (a : ℕ) → a < f.start → clean l c (f ∷ past) a ≡ clean l c past a
  unfolding clean back_to none_gone
  clean-before q e a h = rw (q, eq-eqb f.lane l e, lt-leb f.start a h)

-- How many frames of the lane there are since the one where an octet is: another lane's does not count, and the lane's own is one more.
module _ (l : ℕ) (f : Frame) (past : List Frame) where
  pub span-other : (f.lane ≡ l → ⊥) → (a : ℕ) → span_back l (f ∷ past) a ≡ span_back l past a
  unfolding span_back back_to frames_on
  span-other n a = rw (ne_eqb f.lane l n) (omega arith)

  pub span-own : f.lane ≡ l → (a : ℕ) → span_back l (f ∷ past) a ≡ onward f.start (span_back l past) a
  unfolding span_back back_to frames_on onward
  span-own e a = rw (eq-eqb f.lane l e) (go (f.start ≤? a))
    where
      go : (t : Bool) → 1 + frames_on l (cond t [] (back_to l a past)) ≡ cond t 1 (frames_on l (back_to l a past) + 1)
      go true = refl
      go false = omega arith

-- Which frames of the channel are kept.
pub flags_on : (c : ℕ) (f : Frame) (fs : List Frame) (t : Bool) → f.channel ≡ c → f.kept ≡ t → kept_on c (f ∷ fs) ≡ t ∷ kept_on c fs
unfolding kept_on
flags_on c f fs t p q = rw (eq-eqb f.channel c p, q)

pub flags_off : (c : ℕ) (f : Frame) (fs : List Frame) → (f.channel ≡ c → ⊥) → kept_on c (f ∷ fs) ≡ kept_on c fs
unfolding kept_on
flags_off c f fs n = rw (ne_eqb f.channel c n)

module _ (l : ℕ) (f : Frame) (past : List Frame) where
  -- Nothing is due on lane l in another lane's frame.
  pub due-not : (f.lane ≡ l → ⊥) → due_in l f past ≡ []
  unfolding due_in
  due-not n = rw (ne_eqb f.lane l n)

  -- Nothing is due in a frame that is gone.
  pub due-gone : f.kept ≡ false → due_in l f past ≡ []
  unfolding due_in
  due-gone q = same f.lane l (λ e. rw (eq-eqb f.lane l e) (ends-none _ _ _ _ _ _ (clean-gone l f.channel f past refl q))) due-not
