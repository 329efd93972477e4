-- What a lane's units and records, laid into areas, read back by the records: the lane's units, and for another lane none.
use mathlib.Core.Path.{◌≡◌, refl, sym, ap, ap₂, ◌∙◌}
use Prim.Native.Nat.{ℕ, ◌+◌, ◌^◌, ◌≤◌, ◌<◌}
use native.Mathlib.Omega.{arith}
use mathlib.Core.Bool.{Bool, true, false, cond}
use mathlib.Core.List.{List, [], ◌∷◌, ◌++◌, map, append_assoc}
use lib.ListN.{length, take, drop, length-append}
use lib.Seq.{take_at, drop_at}
use Rattle.rules.specs.declared.Info.{Info}
use Rattle.rules.specs.declared.Gap.{Gap}
use Rattle.rules.specs.Tests.{◌=?◌}
use Rattle.rules.specs.Octets.{be}
use Rattle.rules.specs.Areas.{laid, joined, units_size}
use Rattle.rules.specs.Reading.{DataUnit, octets_of, Made, record_of, records_from, info_of}
use Rattle.rules.specs.Calls.{laid_out}
use Rattle.rules.proofs.Octets.{num-be-below}
use Rattle.rules.proofs.Lanes.{AllSound}
use Rattle.link.specs.Link.{Filed, unit_by, units_by, handed}
use Rattle.link.proofs.Spans.{either}
use Rattle.link.proofs.Ends.{filed}

-- A list where a test passes, and none where it does not, may be made piece by piece.
pick-append {ℓ} : {A : Type ℓ} (t : Bool) (xs ys : List A) → cond t xs [] ++ cond t ys [] ≡ cond t (xs ++ ys) []
pick-append true xs ys = refl
pick-append false xs ys = refl

-- A count has at most seven octets, and so fits eight.
module _ (i : Info) (l : ℕ) (whole : i.count < 256 ^ 8) where
  -- The record that stands first says where its unit is, the frame's count and the span.
  first-unit : (start : ℕ) (d : DataUnit) (pre post rest : List ℕ) → length pre ≡ start → start + length d.octets < 256 ^ 4 → d.span < 256 ^ 4
      → unit_by (record_of i start (length d.octets) d.span ++ rest) (pre ++ (d.octets ++ post)) ≡ filed i.count d
  unfolding unit_by record_of be
  first-unit start d pre post rest e h s =
      let place = ap₂ (λ (n m : ℕ). take n (drop m (pre ++ (d.octets ++ post)))) (num-be-below 4 (length d.octets) (omega arith))
      (num-be-below 4 start (omega arith)) ∙ ap (take (length d.octets)) (drop_at pre (d.octets ++ post) start e)
      ∙ take_at d.octets post (length d.octets) refl in
      λ t. record { octets = place t; count = (num-be-below 8 i.count whole) t; span = (num-be-below 4 d.span s) t }

  by-records : (ds : List DataUnit) (start : ℕ) (pre post rest : List ℕ) → length pre ≡ start → start + length (joined (octets_of ds)) < 256 ^ 4 → AllSound ds
      → units_by l (length ds) (records_from i start ds ++ rest) (pre ++ (joined (octets_of ds) ++ post)) ≡ cond (i.lane =? l) (map (filed i.count) ds) []
  unfolding units_by records_from joined record_of be
  by-records [] start pre post rest e h s = sym (either (i.lane =? l) [])
  by-records (d ∷ ds) start pre post rest e h s =
      let u : List ℕ = d.octets in
      let us : List (List ℕ) = octets_of ds in
      let n : length (u ++ joined us) ≡ length u + length (joined us) = length-append u (joined us) in
      let more : List ℕ = records_from i (start + length u) ds in
      let a : (u ++ joined us) ++ post ≡ u ++ (joined us ++ post) = append_assoc u (joined us) post in
      let b : pre ++ (u ++ (joined us ++ post)) ≡ (pre ++ u) ++ (joined us ++ post) = sym (append_assoc pre u (joined us ++ post)) in
      ap₂ ◌++◌
      (ap₂ (λ (x y : List ℕ). cond (i.lane =? l) (unit_by x (pre ++ y) ∷ []) []) (append_assoc (record_of i start (length u) d.span) more rest) a
      ∙ ap (λ (x : Filed). cond (i.lane =? l) (x ∷ []) [])
      (first-unit start d pre (joined us ++ post) (more ++ rest) e (omega (arith, n)) (omega (arith, n, s.0.within))))
      (ap (λ (y : List ℕ). units_by l (length ds) (more ++ rest) y) (ap (λ (y : List ℕ). pre ++ y) a ∙ b)
      ∙ by-records ds (start + length u) (pre ++ u) post rest (length-append pre u ∙ ap (λ (m : ℕ). m + length u) e) (omega (arith, n)) s.1)
      ∙ pick-append (i.lane =? l) (filed i.count d ∷ []) (map (filed i.count) ds)

-- What a read that lays a lane's units and records out hands out on lane l.
pub handed-laid : (l : ℕ) (g : Gap) (ours count : ℕ) (m : Made) (h u c : List ℕ) → length (joined (octets_of m.units)) ≤ units_size
    → AllSound m.units → count < 256 ^ 8 → handed l (laid_out g ours count m h u c) ≡ cond (ours =? l) (map (filed count) m.units) []
unfolding handed laid_out laid info_of
handed-laid l g ours count m h u c b s whole =
    by-records (info_of g.state.setting ours count) l whole m.units 0 [] (drop (0 + length (joined (octets_of m.units))) u)
    (drop (0 + length (records_from (info_of g.state.setting ours count) 0 m.units)) c) refl (omega arith) s
