-- The line of a unit as a pattern that is filled.
use Prim.Native.Nat.{ℕ}
use mathlib.Core.Path.{◌≡◌, ap, subst, ◌∙◌}
use mathlib.Core.List.{List, [], ◌∷◌, ◌++◌, append_assoc}
use Rattle.rules.specs.Listing.{text}
use Rattle.listing_text.proofs.Patterns.{strung}
use Rattle.unpack_text.specs.Lines.{Wrote}
use Rattle.std.proofs.Common.{Option, Some}
use Rattle.rules.specs.declared.Family.{Family}
use Rattle.rules.specs.declared.Family.TheVariants.{Space}
use Rattle.unit_table.specs.declared.Row.{Row}
use Rattle.unit_table.specs.Rows.{place_text, frame_text, packet_text, span_text, family_text, row_text}

pub wrote_row : {r q : Row} {area : List ℕ} {from : ℕ} {area' : List ℕ} {end : ℕ} → r ≡ q → Wrote 174 (row_text r) area from area' end
    → Wrote 174 (row_text q) area from area' end
wrote_row {area = area} {from = from} {area' = area'} {end = end} e w = subst (λ (x : Row). Wrote 174 (row_text x) area from area' end) e w

-- A line with a number in each field but the last.
abbrev pub eight_fields : List (List ℕ)
eight_fields = [] ∷ text "," ∷ text "," ∷ text "," ∷ text "," ∷ text "," ∷ text "," ∷ text "," ∷ []

-- A line with two empty fields before the span.
abbrev pub six_fields : List (List ℕ)
six_fields = [] ∷ text "," ∷ text "," ∷ text "," ∷ text "," ∷ (text ",," ++ text ",") ∷ []

module _ (r : Row) where
  pub space-strung : r.family ≡ Some Space
      → strung eight_fields (r.lane ∷ r.offset ∷ r.length ∷ r.frame ∷ r.count ∷ r.apid ∷ r.sequence ∷ r.span ∷ []) (text ",space" ++ text "\n")
      ≡ row_text r
  unfolding strung row_text place_text frame_text packet_text span_text family_text
  space-strung h = rw h (simp append_assoc)

  abbrev six : List ℕ
  six = r.lane ∷ r.offset ∷ r.length ∷ r.frame ∷ r.count ∷ r.span ∷ []

  -- Of another unit, with what is said of its family.
  pub other-strung : (s : Option Family) → r.family ≡ s → packet_text s r ≡ text ",," → strung six_fields six (family_text s ++ text "\n") ≡ row_text r
  unfolding strung row_text place_text frame_text span_text
  other-strung s h e = go (packet_text r.family r) (ap (λ (x : Option Family). packet_text x r) h ∙ e) (family_text r.family) (ap family_text h)
    where
      go : (p : List ℕ) → p ≡ text ",," → (f : List ℕ) → f ≡ family_text s
          → strung six_fields six (family_text s ++ text "\n") ≡ place_text r ++ frame_text r ++ p ++ span_text r ++ f ++ text "\n"
      go p k f l = rw (k, l) (simp append_assoc)
