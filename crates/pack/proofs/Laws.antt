-- From turn to turn of a round.
use Prim.Native.Nat.{ℕ, ◌+◌, ◌<◌}
use native.Mathlib.Omega.{arith}
use mathlib.Core.Path.{◌≡◌, refl, sym, subst, ◌∙◌}
use mathlib.Core.Bool.{Bool, true, false, true≢false}
use mathlib.Core.List.{List}
use Rattle.std.specs.Prelude.{Option, Some, None, cond, MatchOption}
use borrow.Author.Tests.{ltb-true}
use Rattle.rules.specs.Tests.{◌<?◌}
use Rattle.turns.specs.declared.Course.{Course}
use Rattle.pack.specs.declared.Files.{Files}
use Rattle.pack.specs.declared.Place.{Place}
use Rattle.pack.specs.Rounds.{with_file, has_next, next_turn, next_place, place_after, Stepped, Dealt, turn, Rounded}

below_eight : (k count : ℕ) → next_place k count < 8
unfolding next_place
below_eight k count = go ((k + 1) <? count) ((k + 1) <? 8) refl
  where
    go : (a b : Bool) → (k + 1) <? 8 ≡ b → cond a (cond b (k + 1) 0) 0 < 8
    go true true e = ltb-true _ _ e
    go true false e = omega arith
    go false b e = omega arith

module _ (writing : Bool) (c₀ : Course) (f₀ : Files) (insert ocf : List ℕ) where
  abbrev pub Ended : Place → Type 0
  Ended p = (p.last < 8) × Rounded writing c₀ f₀ insert ocf p.course p.last

  -- After n turns the next one is file k's. After as many as are counted the round is over.
  pub record Going (n : ℕ) (p : Place) (areas lists : List ℕ) (k : ℕ) : Type 0 where
    pub there : k < 8
    pub dealt : Dealt writing c₀ f₀ insert ocf n k p.course p.files areas lists
    pub counted : n ≡ 18446744073709551615 → Ended p

  -- Where a round is after n turns: there is a next one, or it is over.
  abbrev pub At : ℕ → Place → List ℕ → List ℕ → Type 0
  At n p areas lists = MatchOption p.next (Ended p) (λ k. Going n p areas lists k)

  pub going : (n : ℕ) (p : Place) (areas lists : List ℕ) {k : ℕ} → p.next ≡ Some k → At n p areas lists → Going n p areas lists k
  going n p areas lists is at = subst (λ (o : Option ℕ). MatchOption o (Ended p) (λ k. Going n p areas lists k)) is at

  -- After as many turns as are counted it is over.
  pub ended : (n : ℕ) (p : Place) (areas lists : List ℕ) → n ≡ 18446744073709551615 → At n p areas lists → Ended p
  ended n p areas lists e = go p.next
    where
      go : (o : Option ℕ) → MatchOption o (Ended p) (λ k. Going n p areas lists k) → Ended p
      go None at = at
      go (Some k) at = at.counted e

module _ {writing : Bool} {c₀ : Course} {f₀ : Files} {insert ocf areas lists areas' lists' : List ℕ} {n k : ℕ} {p q : Place}
    (g : Going writing c₀ f₀ insert ocf n p areas lists k) (s : Stepped writing p k insert ocf areas lists q areas' lists') where
  over_by : (b : Bool) → has_next s.move.course (with_file p.files k s.move.source) ≡ b → (b ≡ true → n + 1 ≡ 18446744073709551615)
      → Ended writing c₀ f₀ insert ocf (place_after p k s.move)
  over_by b e h = (
    g.there,
    record {
      before = _;
      files = _;
      areas = _;
      lists = _;
      turns = _;
      dealt = g.dealt;
      move = s.move;
      areas' = _;
      lists' = _;
      taken = s.taken;
      course = refl;
      over = λ on. h (sym e ∙ on);
    },
  )

  -- A turn: the one after it is dealt out with what it left, or there is none.
  pub turned : At writing c₀ f₀ insert ocf (n + 1) q areas' lists'
  unfolding next_turn
  turned =
      subst (λ (x : Place). At writing c₀ f₀ insert ocf (n + 1) x areas' lists') (sym s.place)
      (go (has_next s.move.course (with_file p.files k s.move.source)) refl)
    where
      go : (b : Bool) → has_next s.move.course (with_file p.files k s.move.source) ≡ b
          → MatchOption (cond b (Some (next_place k p.files.count)) None) (Ended writing c₀ f₀ insert ocf (place_after p k s.move))
          (λ j. Going writing c₀ f₀ insert ocf (n + 1) (place_after p k s.move) areas' lists' j)
      go true e = record { there = below_eight k p.files.count; dealt = turn g.dealt s.taken e; counted = λ h. over_by true e (λ t. h) }
      go false e = over_by false e (λ t. absurd (true≢false (sym t)))
