-- A look, and a pass: what was found is shown as the rule's answer, and what the decision makes of it is the rule's.
use mathlib.Core.Path.{◌≡◌, sym, ap, ◌∙◌}
use mathlib.Core.Bool.{Bool, true, false}
use Prim.Native.Nat.{ℕ}
use mathlib.Core.List.{List}
use Rattle.rules.specs.declared.Looked.{Looked}
use Rattle.rules.specs.declared.Reader.{Reader}
use Rattle.rules.specs.declared.Taken.{Taken}
use Rattle.rules.specs.Calls.{looked, look}
use Rattle.rules.specs.Promises.{ReadGives}
use Rattle.rules.specs.Passes.{left_out, seen, pass_by, pass, PassGives}
use Rattle.rules.proofs.Promises.{look-by, read_is}
use Rattle.std.specs.Prelude.{Result}
use Rattle.reader.specs.declared.Found.{Found}
use Rattle.reader.specs.Finds.{found_of, shown_of}
use Rattle.reader.proofs.Verdicts.{shown-look}

module _ (r : Reader) (f : List ℕ) (v : Result Found ℕ) (e : v ≡ found_of r f (looked r f)) (o : Looked) (q : o ≡ shown_of v) where
  pub is-look : o ≡ look r f
  unfolding look
  is-look = q ∙ ap shown_of e ∙ shown-look r f (looked r f)

  module _ (w : List Bool) (b : Bool) (d : b ≡ left_out w r.setting o) (h u c : List ℕ) where
    decided : b ≡ left_out w r.setting (look r f)
    decided = d ∙ ap (left_out w r.setting) is-look

    -- What a decision makes is what the pass makes.
    by-pass : (k : Bool) → b ≡ k → pass_by k r f h u c ≡ pass w r f h u c
    unfolding pass
    by-pass k p = ap (λ (x : Bool). pass_by x r f h u c) (sym p ∙ decided)

    pub left-passes : b ≡ true → (t : Taken) → t ≡ record { answer = seen o; state = r }
        → PassGives w r f h u c (record { taken = t; looked = o; left = b }) h u c
    unfolding pass_by
    left-passes p t a =
        record {
          looked = look-by r f o is-look;
          left = decided;
          got =
              ap (λ (x : Taken). record { taken = x; held_area = h; unit_area = u; record_area = c })
              (a ∙ ap (λ (x : Looked). record { answer = seen x; state = r }) is-look)
              ∙ by-pass true p;
        }

    pub taken-passes : b ≡ false → (t : Taken) (h' u' c' : List ℕ) → ReadGives r f h u c t h' u' c'
        → PassGives w r f h u c (record { taken = t; looked = o; left = b }) h' u' c'
    unfolding pass_by
    taken-passes p t h' u' c' a =
        record {
          looked = look-by r f o is-look;
          left = decided;
          got = read_is r f h u c (record { taken = t; held_area = h'; unit_area = u'; record_area = c' }) a ∙ by-pass false p;
        }
