-- What is printed for a frame: the title before the first line, and the line.
use Prim.Native.Nat.{ℕ, ◌≤◌}
use mathlib.Core.Path.{◌≡◌, sym, ap, ap₂, subst, ◌∙◌}
use mathlib.Core.Bool.{Bool, true, false, cond}
use mathlib.Core.List.{List, [], ◌++◌}
use lib.Dec.{lit≤}
use lib.ListN.{length, take, length-append}
use native.Mathlib.Omega.{arith}
use borrow.Author.Tests.{ne_eqb}
use Rattle.rules.specs.declared.Answer.{Answer}
use Rattle.rules.specs.declared.Taken.{Taken}
use Rattle.rules.specs.Tests.{◌=?◌}
use Rattle.rules.specs.Calls.{Got}
use Rattle.rules.specs.Listing.{text, line}
use Rattle.rules.proofs.Areas.{laid-front}
use Rattle.listing_text.specs.Puts.{Put}
use Rattle.listing_text.proofs.Laws.{put-none, put_then, length-line}
use Rattle.list_worked.specs.Runs.{opening, printed, Listed}

pub length-opening : (k : ℕ) → length (opening k) ≤ 27
unfolding opening text
length-opening k = by (k =? 0)
  where
    by : (t : Bool) → length (cond t (text "frame answer units missing\n") []) ≤ 27
    by true = lit≤ tt
    by false = lit≤ tt

pub put-later : (k : ℕ) (area : List ℕ) → ((k ≡ 0) → ⊥) → Put (opening k) area 0 area 0
unfolding opening
put-later k area z = subst (λ (t : Bool). Put (cond t (text "frame answer units missing\n") []) area 0 area 0) (sym (ne_eqb k 0 z)) (put-none area 0)

-- A read, then the opening and the line of its answer.
pub listed : (k : ℕ) (o : Got) (t : Taken) (h u c area area₁ : List ℕ) (at : ℕ) (area₂ : List ℕ) (end : ℕ)
    → 98 ≤ length area → record { taken = t; held_area = h; unit_area = u; record_area = c } ≡ o
    → Put (opening k) area 0 area₁ at → Put (line k t.answer) area₁ at area₂ end
    → Listed k o area t.answer t.state h u c area₂ end
unfolding printed
listed k o t h u c area area₁ at area₂ end room e p q =
    let a : Answer = t.answer in
    let f : length (opening k) ≤ 27 = length-opening k in
    let w : Put (opening k ++ line k a) area 0 area₂ end = put_then (opening k) (line k a) area 0 area₁ at area₂ end (omega arith) p q in
    record {
      answer = ap (λ (g : Got). g.taken.answer) e;
      state = ap (λ (g : Got). g.taken.state) e;
      held = ap (λ (g : Got). g.held_area) e;
      units = ap (λ (g : Got). g.unit_area) e;
      records = ap (λ (g : Got). g.record_area) e;
      text = w;
      short = omega (arith, w.ends, length-append (opening k) (line k a), length-line k a);
    }

-- What is cut out of the area is what was put there.
pub cut : {xs area area' : List ℕ} {end : ℕ} → Put xs area 0 area' end → take end area' ≡ xs
cut {xs} {area} {area'} {end} p =
    let e : end ≡ length xs = omega (arith, p.ends) in
    ap₂ (λ (i : ℕ) (a : List ℕ). take i a) e p.octets ∙ laid-front area xs
