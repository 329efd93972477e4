-- The octets that name a lane.
use mathlib.Core.Path.{◌≡◌}
use Prim.Native.Nat.{ℕ, ◌-◌, ◌≤◌, ◌<◌}
use native.Mathlib.Omega.{arith}
use mathlib.Core.Bool.{and-false}
use mathlib.Core.List.{List}
use lib.ListN.{length, get_or, get_or-eq_default}
use borrow.Author.Tests.{eq-eqb, ne_eqb, le-leb, lt-leb, lt-ltb, le-ltb}
use Rattle.rules.specs.Tests.{◌=?◌, all}
use Rattle.words.specs.declared.pack_start.Named.TheVariants.{ToLane, Other}
use Rattle.words.specs.PackWords.{lane}

module _ (n : ℕ) (s : List ℕ) where
  pub lane-short : length s < 2 → lane n s ≡ Other
  unfolding lane all
  lane-short h = rw (get_or-eq_default s 0 {n = 1} (omega arith))

  pub lane-other : (get_or s 1 0 ≡ 61 → ⊥) → lane n s ≡ Other
  unfolding lane all
  lane-other d = rw (ne_eqb (get_or s 1 0) 61 d)

  pub lane_low : get_or s 0 0 < 48 → lane n s ≡ Other
  unfolding lane all
  lane_low h = rw (lt-leb 48 (get_or s 0 0) h, and-false (get_or s 1 0 =? 61))

  module _ (e : get_or s 1 0 ≡ 61) (h : 48 ≤ get_or s 0 0) where
    pub lane-is : get_or s 0 0 - 48 < n → lane n s ≡ ToLane (get_or s 0 0 - 48)
    unfolding lane all
    lane-is k = rw (eq-eqb (get_or s 1 0) 61 e, le-leb 48 (get_or s 0 0) h, lt-ltb (get_or s 0 0 - 48) n k)

    pub lane-high : n ≤ get_or s 0 0 - 48 → lane n s ≡ Other
    unfolding lane all
    lane-high k = rw (eq-eqb (get_or s 1 0) 61 e, le-leb 48 (get_or s 0 0) h, le-ltb (get_or s 0 0 - 48) n k)
