-- What a request asks for decides what it leaves.
use mathlib.Core.Path.{◌≡◌, ap}
use Prim.Native.Nat.{ℕ, ◌≤◌, ◌<◌}
use native.Mathlib.Omega.{arith}
use mathlib.Core.List.{List}
use lib.ListN.{length, replicate}
use borrow.Author.Tests.{ne_eqb, le-ltb}
use Rattle.rules.specs.Octets.{check_of}
use Rattle.rules.specs.Calls.{set_up_writer, set_up_reader}
use Rattle.rows.specs.Rows.{word}
use Rattle.rows.specs.States.{setting_in}
use Rattle.obey.specs.declared.requests.Asks.TheVariants.{Read}
use Rattle.obey.specs.declared.requests.Frame.{Frame}
use Rattle.obey.specs.declared.requests.Frame.TheVariants.{Kept, Behind}
use Rattle.obey.specs.Requests.{behind, laid_in, one, answered, sent_on, heard_on, sent, written, read_on, Left, look_on}
use Rattle.obey.specs.Requests.{Means, Areas, after_read, blank, desk_after, obeyed}

module _ (q desk held units records : List ℕ) where
  abbrev here : Areas
  here = record { desk = desk; held = held; units = units; records = records }

  abbrev Leaves : List ℕ → List ℕ → List ℕ → List ℕ → Type 0
  Leaves d h u c = ◌≡◌ {A = Areas} (record { desk = d; held = h; units = u; records = c }) (obeyed q here)

  pub reads : (d h u c : List ℕ) (f : Frame) → Means (word q 0) (Read f) → Left (read_on q desk held units records) desk d h u c → Leaves d h u c
  unfolding obeyed after_read
  reads d h u c Kept e l = rw e cc
  reads d h u c Behind e l = rw e cc

  pub holds : (h : List ℕ) → word q 0 ≡ 2 → h ≡ laid_in held (word q 2) (behind q) → Leaves desk h units records
  unfolding obeyed
  holds h e p = rw e (ap (λ (x : List ℕ). record { desk = desk; held = x; units = units; records = records }) p)

  pub blanks : (h u c : List ℕ) → word q 0 ≡ 3 → h ≡ replicate (length held) 0x55 → u ≡ replicate (length units) 0x55
      → c ≡ replicate (length records) 0x55 → Leaves desk h u c
  unfolding obeyed blank
  blanks h u c e p r s = rw e cc

  -- Of the others each changes the desk alone.
  same-areas : {d d' : List ℕ} → d ≡ d'
      → ◌≡◌ {A = Areas} (record { desk = d; held = held; units = units; records = records })
      (record { desk = d'; held = held; units = units; records = records })
  same-areas p = ap (λ (x : List ℕ). record { desk = x; held = held; units = units; records = records }) p

  pub lays : (d : List ℕ) → word q 0 ≡ 4 → d ≡ laid_in desk (word q 2) (behind q) → Leaves d held units records
  unfolding obeyed desk_after
  lays d e p = rw e (same-areas p)

  pub sets-writer : (d : List ℕ) → word q 0 ≡ 5 → d ≡ sent_on desk (set_up_writer (setting_in desk 1)) → Leaves d held units records
  unfolding obeyed desk_after
  sets-writer d e p = rw e (same-areas p)

  pub sets-reader : (d : List ℕ) → word q 0 ≡ 6 → d ≡ heard_on desk (set_up_reader (setting_in desk 18)) → Leaves d held units records
  unfolding obeyed desk_after
  sets-reader d e p = rw e (same-areas p)

  pub writes : (d : List ℕ) → word q 0 ≡ 7 → d ≡ written (sent q desk) desk → Leaves d held units records
  unfolding obeyed desk_after
  writes d e p = rw e (same-areas p)

  pub checks : (d : List ℕ) → word q 0 ≡ 8 → d ≡ answered desk (one (check_of (behind q))) → Leaves d held units records
  unfolding obeyed desk_after
  checks d e p = rw e (same-areas p)

  pub looks : (d : List ℕ) → word q 0 ≡ 9 → d ≡ look_on q desk → Leaves d held units records
  unfolding obeyed desk_after
  looks d e p = rw e (same-areas p)

  pub nothing : 9 < word q 0 → Leaves desk held units records
  unfolding obeyed desk_after
  nothing h =
      let least : 2 ≤ word q 0 = omega arith in
      let other : (k : ℕ) → k ≤ 9 → (word q 0 ≡ k) → ⊥ = λ k s e. omega arith in
      rw (
        le-ltb _ _ least,
        ne_eqb _ 2 (other 2 (omega arith)),
        ne_eqb _ 3 (other 3 (omega arith)),
        ne_eqb _ 4 (other 4 (omega arith)),
        ne_eqb _ 5 (other 5 (omega arith)),
        ne_eqb _ 6 (other 6 (omega arith)),
        ne_eqb _ 7 (other 7 (omega arith)),
        ne_eqb _ 8 (other 8 (omega arith)),
        ne_eqb _ 9 (other 9 (omega arith)),
      )
