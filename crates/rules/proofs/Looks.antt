-- Look beside take: where no area is short their answers are the same; looks change no later answer; and what a pass leaves as it was.
use mathlib.Core.Path.{◌≡◌, refl, sym, ap, ◌∙◌}
use mathlib.Core.Logic.{◌⊎◌, inl, inr}
use Prim.Native.Nat.{ℕ, zero, suc}
use mathlib.Core.Bool.{Bool, true, false, cond, not}
use mathlib.Core.List.{List, [], ◌∷◌}
use lib.ListN.{get_or, replicate}
use native.Mathlib.Omega.{arith}
use Rattle.rules.specs.declared.Reader.{Reader}
use Rattle.rules.specs.declared.Class.{Class}
use Rattle.rules.specs.declared.Looked.{Looked}
use Rattle.rules.specs.declared.Passed.{Passed}
use Rattle.rules.specs.declared.Taken.{Taken}
use Rattle.std.specs.Prelude.{Option, Some, None}
use Rattle.rules.specs.declared.Verdict.{Verdict}
use Rattle.rules.specs.Tests.{at, given}
use Rattle.rules.specs.Settings.{channel, lane, channel_of, reader_ok, with_expect}
use Rattle.rules.specs.Frames.{count_in}
use Rattle.rules.specs.Reading.{expected, gap_by, gap}
use Rattle.rules.specs.Refusals.{refusals, judged, judge}
use Rattle.rules.specs.Calls.{Got, areas_short, laid_out, read_on, again, on_verdict, verdict, read, look_refusals, looked, missing_at, on_look, look}
use Rattle.rules.specs.Passes.{whose, whose_of, left_out, pass_by, pass, PassGives, Step, answers, of_takes, only_taken}
use Rattle.rules.proofs.Tests.{get_d_alike}
use Rattle.rules.proofs.Calls.{verdict-cond, read_valid, Small, small, read_fits}
use Rattle.rules.proofs.Promises.{look-once}

-- ---- what a look finds

module _ (r : Reader) (f : List ℕ) where
  -- The table's first row comes before the frame's own.
  pub looked-cond : looked r f ≡ cond (not (reader_ok r)) (Verdict.Refused 1) (again r f (judge r.setting f))
  unfolding looked look_refusals given judged judge again
  looked-cond = go (reader_ok r)
    where
      go : (a : Bool) → again r f (judged r.setting f (cond (not a) 1 (given (refusals r.setting f))))
          ≡ cond (not a) (Verdict.Refused 1) (again r f (judge r.setting f))
      go true = refl
      go false = refl

  -- A look tells whose the frame is.
  pub whose-look : whose (look r f) ≡ looked r f
  unfolding look whose
  whose-look = go (looked r f)
    where
      go : (v : Verdict) → whose (on_look v r f) ≡ v
      go (Verdict.Refused n) = unfold on_look whose_of in refl
      go Verdict.Idle = unfold on_look whose_of in refl
      go (Verdict.Counted c) = unfold on_look whose_of in refl
      go (Verdict.Read l) = unfold on_look whose_of in refl
      go (Verdict.Repeat c) = unfold on_look whose_of in refl

-- A gap has as many missing as a look says.
pub gap-missing : (r : Reader) (c k : ℕ) → (gap r c k).missing ≡ missing_at r c k
unfolding gap missing_at
gap-missing r c k = go _
  where
    go : (m : ℕ) → (gap_by (with_expect r c (expected (channel r.setting c).octets k)) c m).missing ≡ m
    go zero = unfold gap_by in refl
    go (suc m) = unfold gap_by in refl

-- ---- "Where the areas are long enough the answers are the same."

-- Refusal and class, and missing.
pub record Same (r : Reader) (f h u c : List ℕ) : Type 0 where
  pub class : (look r f).class ≡ (read r f h u c).taken.answer.class
  pub missing : (look r f).missing ≡ (read r f h u c).taken.answer.missing

module _ (r : Reader) (f h u c : List ℕ) where
  pub verdict-looked : areas_short h u c ≡ false → verdict r f h u c ≡ looked r f
  verdict-looked e = verdict-cond r f h u c ∙ rw e (sym (looked-cond r f))

  pub same-answers : areas_short h u c ≡ false → Same r f h u c
  unfolding look read
  same-answers e =
      record {
        class = classes (looked r f) ∙ ap (λ (v : Verdict). (on_verdict v r f h u c).taken.answer.class) (sym (verdict-looked e));
        missing = missings (looked r f) ∙ ap (λ (v : Verdict). (on_verdict v r f h u c).taken.answer.missing) (sym (verdict-looked e));
      }
    where
      classes : (v : Verdict) → (on_look v r f).class ≡ (on_verdict v r f h u c).taken.answer.class
      classes (Verdict.Refused n) = unfold on_look on_verdict in refl
      classes Verdict.Idle = unfold on_look on_verdict in refl
      classes (Verdict.Counted k) = unfold on_look on_verdict in refl
      classes (Verdict.Read l) = unfold on_look on_verdict read_on laid_out in refl
      classes (Verdict.Repeat k) = unfold on_look on_verdict in refl

      missings : (v : Verdict) → (on_look v r f).missing ≡ (on_verdict v r f h u c).taken.answer.missing
      missings (Verdict.Refused n) = unfold on_look on_verdict in refl
      missings Verdict.Idle = unfold on_look on_verdict in refl
      missings (Verdict.Counted k) = unfold on_look on_verdict in sym (gap-missing r k (count_in (channel r.setting k) f))
      missings (Verdict.Read l) =
          unfold on_look on_verdict read_on laid_out in sym (gap-missing r (lane r.setting l).channel (count_in (channel_of r.setting l) f))
      missings (Verdict.Repeat k) = unfold on_look on_verdict in refl

  -- With a short area a take gives 2, whatever the look said of the frame.
  pub short-gives-two : reader_ok r ≡ true → areas_short h u c ≡ true → (read r f h u c).taken.answer.class ≡ Class.Refused 2
  unfolding read on_verdict
  short-gives-two ok e =
      let two : verdict r f h u c ≡ Verdict.Refused 2 = verdict-cond r f h u c ∙ rw (ok, e) in
      ap (λ (v : Verdict). (on_verdict v r f h u c).taken.answer.class) two

-- ---- looking any number of times changes no later answer

pub looks_change_nothing : (xs : List Step) (r : Reader) (h u c : List ℕ) → of_takes (answers r h u c xs) ≡ answers r h u c (only_taken xs)
unfolding answers of_takes only_taken
looks_change_nothing [] r h u c = refl
looks_change_nothing (x ∷ xs) r h u c =
    let after : Got = read r x.frame h u c in
    go x.taken refl (looks_change_nothing xs after.taken.state after.held_area after.unit_area after.record_area)
    (looks_change_nothing xs r h u c)
  where
    then : Got → List Step → List (Looked ⊎ Got)
    then o ys = answers o.taken.state o.held_area o.unit_area o.record_area ys

    go : (t : Bool) → x.taken ≡ t
        → of_takes (then (read r x.frame h u c) xs) ≡ then (read r x.frame h u c) (only_taken xs)
        → of_takes (answers r h u c xs) ≡ answers r h u c (only_taken xs)
        → of_takes (cond t (inr (read r x.frame h u c) ∷ then (read r x.frame h u c) xs) (inl (look r x.frame) ∷ answers r h u c xs))
        ≡ answers r h u c (cond t (x ∷ only_taken xs) (only_taken xs))
    go true e taken looked = rw e (ap (◌∷◌ (inr (read r x.frame h u c))) taken)
    go false e taken looked = looked

-- ---- a pass

-- Where no virtual channel is left out, a pass is the read.
pub pass_all : (n : ℕ) (r : Reader) (f h u c : List ℕ) → pass (replicate n false) r f h u c ≡ read r f h u c
unfolding pass left_out pass_by
pass_all n r f h u c = ap (λ (b : Bool). pass_by b r f h u c) (go (look r f).channel)
  where
    go : (p : Option ℕ) → at p (λ (k : ℕ). get_or (replicate n false) (channel r.setting k).vc false) ≡ false
    go (Some k) = get_d_alike n (channel r.setting k).vc false
    go None = refl

-- A valid state stays valid.
pub pass_valid : (w : List Bool) (r : Reader) (f h u c : List ℕ) → reader_ok r ≡ true → reader_ok (pass w r f h u c).taken.state ≡ true
unfolding pass
pass_valid w r f h u c ok = go (left_out w r.setting (look r f))
  where
    go : (b : Bool) → reader_ok (pass_by b r f h u c).taken.state ≡ true
    go true = unfold pass_by in ok
    go false = unfold pass_by in read_valid r f h u c ok

-- What is handed out fits.
pub pass_fits : (w : List Bool) (r : Reader) (f h u c : List ℕ) → Small (pass w r f h u c).taken.answer
unfolding pass
pass_fits w r f h u c = go (left_out w r.setting (look r f))
  where
    go : (b : Bool) → Small (pass_by b r f h u c).taken.answer
    go true = unfold pass_by in small _ (omega arith) (omega arith)
    go false = unfold pass_by in read_fits r f h u c

-- Outcomes allowed for one input are equal.
pub pass-once : (w : List Bool) (r : Reader) (f h u c : List ℕ) (a b : Passed) (h₁ u₁ c₁ h₂ u₂ c₂ : List ℕ)
    → PassGives w r f h u c a h₁ u₁ c₁ → PassGives w r f h u c b h₂ u₂ c₂
    → (a ≡ b) × (h₁ ≡ h₂) × (u₁ ≡ u₂) × (c₁ ≡ c₂)
pass-once w r f h u c a b h₁ u₁ c₁ h₂ u₂ c₂ p q =
    let e = p.got ∙ sym q.got in
    let t : a.taken ≡ b.taken = ap (λ (x : Got). x.taken) e in
    let o : a.looked ≡ b.looked = look-once r f a.looked b.looked p.looked q.looked in
    let l : a.left ≡ b.left = p.left ∙ sym q.left in (
      ap (λ (x : Taken). record { taken = x; looked = a.looked; left = a.left }) t
          ∙ ap (λ (x : Looked). record { taken = b.taken; looked = x; left = a.left }) o
          ∙ ap (λ (x : Bool). record { taken = b.taken; looked = b.looked; left = x }) l,
      ap (λ (x : Got). x.held_area) e,
      ap (λ (x : Got). x.unit_area) e,
      ap (λ (x : Got). x.record_area) e,
    )
