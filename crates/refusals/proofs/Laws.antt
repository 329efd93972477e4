-- Words by their numbers, and what is said of the first refused frame.
use Prim.Native.Nat.{ℕ, zero, suc, ◌+◌, ◌/◌, ◌%◌, ◌≤◌, ◌<◌}
use mathlib.Core.Path.{◌≡◌, refl, sym, subst}
use mathlib.Core.Bool.{Bool, true, ◌&&◌}
use mathlib.Core.List.{List, [], ◌∷◌, ◌++◌, append_assoc, append-nil}
use lib.ListN.{length, get_or, length-append}
use native.Mathlib.Numerals.{add-one}
use native.Mathlib.Omega.{arith}
use borrow.Author.Tests.{lt-ltb, le-ltb, leb-true}
use Rattle.rules.specs.Tests.{◌≤?◌}
use Rattle.rules.specs.Listing.{text, decimal}
use Rattle.rules.specs.Frames.{version, craft, vc}
use Rattle.rules.proofs.Tests.{and_left, and_right}
use Rattle.header.specs.declared.Head.{Head}
use Rattle.header.specs.Heads.{head_of}
use Rattle.listing_text.specs.Puts.{Put, onto, parts, part}
use Rattle.listing_text.proofs.Laws.{put-none, length-decimal, decimal_digit}
use Rattle.listing_text.proofs.Patterns.{strung}
use Rattle.unpack_text.specs.Lines.{Wrote}
use Rattle.refusals.specs.declared.First.{First}
use Rattle.refusals.specs.Counts.{commoner, commonest}
use Rattle.refusals.specs.Words.{table, words_of, binary, version_text, source_text, head_text, first_text}

-- ---- words

-- Texts with a mark between each two.
unfoldable pub barred : List (List ℕ) → List ℕ
barred [] = []
barred (t ∷ []) = t
barred (t ∷ u ∷ ts) = t ++ 124 ∷ barred (u ∷ ts)

words-part : (n : ℕ) → part (barred table) n ≡ words_of n
unfolding part parts onto barred text words_of
words-part n = refl

unfoldable short : List (List ℕ) → ℕ → Bool
short [] m = true
short (t ∷ ts) m = length t ≤? m && short ts m

get-short : (ts : List (List ℕ)) (m n : ℕ) → short ts m ≡ true → length (get_or ts n []) ≤ m
unfolding short
get-short [] m n h = omega arith
get-short (t ∷ ts) m zero h = leb-true _ _ (and_left (length t ≤? m) (short ts m) h)
get-short (t ∷ ts) m (suc n) h = get-short ts m n (and_right (length t ≤? m) (short ts m) h)

words-most : (n : ℕ) → length (words_of n) ≤ 128
unfolding words_of short text
words-most n = get-short table 128 n refl

pub wrote_words : (n : ℕ) {area : List ℕ} {from : ℕ} {area' : List ℕ} {end : ℕ} → Put (part (barred table) n) area from area' end
    → Wrote 128 (words_of n) area from area' end
wrote_words n {area} {from} {area'} {end} p =
    record { put = subst (λ (xs : List ℕ). Put xs area from area' end) (words-part n) p; most = words-most n }

pub words_fit : (n from : ℕ) {size : ℕ} → from + 128 ≤ size → from + length (part (barred table) n) ≤ size
words_fit n from h = rw (words-part n) (omega (arith, words-most n))

pub naming-strung : (n m : ℕ) → strung (text "refused " ∷ text " frames " ∷ []) (n ∷ m ∷ []) (text ": ")
    ≡ text "refused " ++ decimal n ++ (text " frames " ++ decimal m) ++ text ": "
unfolding strung
naming-strung n m = simp append_assoc

pub wrote_nothing : (m : ℕ) {xs : List ℕ} (area : List ℕ) (from : ℕ) → xs ≡ [] → Wrote m xs area from area from
wrote_nothing m {xs} area from e =
    subst (λ (ys : List ℕ). Wrote m ys area from area from) (sym e) (record { put = put-none area from; most = omega arith })

-- ---- the commonest

pub commonest-none : (counts : List ℕ) → commonest counts 0 ≡ 0
unfolding commonest
commonest-none counts = refl

module _ (counts : List ℕ) (i : ℕ) {best : ℕ} (e : best ≡ commonest counts i) where
  pub commonest-more : get_or counts best 0 < get_or counts i 0 → commonest counts (i + 1) ≡ i
  unfolding commonest commoner
  commonest-more h = rw (add-one i, ← e, lt-ltb _ _ h)

  pub commonest-same : get_or counts i 0 ≤ get_or counts best 0 → commonest counts (i + 1) ≡ best
  unfolding commonest commoner
  commonest-same h = rw (add-one i, ← e, le-ltb _ _ h)

-- ---- the first

bit_digit : (v : ℕ) → decimal (v % 2) ≡ (48 + v % 2) ∷ []
bit_digit v = decimal_digit (v % 2) (omega arith)

module _ (p : First) (own : ℕ) where
  pub short-strung : p.octets < 4
      → strung (text "the first refused is frame " ∷ text ": its length is " ∷ []) (p.frame ∷ p.octets ∷ []) [] ≡ first_text p own
  unfolding strung first_text
  short-strung h = rw (lt-ltb _ _ h) (simp (append_assoc, append-nil))

  pub head-strung : (h : Head) → h ≡ head_of p.front → 4 ≤ p.octets
      → strung (text "the first refused is frame " ∷ text ": version " ∷ [] ∷ [] ∷ [] ∷ text ", spacecraft " ∷ text ", virtual channel "
      ∷ text "; the setting's spacecraft is " ∷ [])
      (p.frame ∷ h.version / 8 % 2 ∷ h.version / 4 % 2 ∷ h.version / 2 % 2 ∷ h.version % 2 ∷ h.craft ∷ h.vc ∷ own ∷ []) [] ≡ first_text p own
  unfolding strung first_text head_text version_text source_text binary head_of
  head-strung h e k =
      rw (
        e,
        le-ltb _ _ k,
        bit_digit (version p.front / 8),
        bit_digit (version p.front / 4),
        bit_digit (version p.front / 2),
        bit_digit (version p.front),
      ) (simp (append_assoc, append-nil))

  pub first-most : 4 ≤ p.octets → length (first_text p own) ≤ 182
  unfolding first_text head_text version_text source_text binary text
  first-most k =
      let x : List ℕ = text ", virtual channel " ++ decimal (vc p.front) in
      let o : List ℕ = text "; the setting's spacecraft is " ++ decimal own in
      rw (le-ltb _ _ k) (omega (
        arith,
        length-append (decimal p.frame) (head_text p.front own),
        length-append (decimal (craft p.front) ++ x) o,
        length-append (decimal (craft p.front)) x,
        length-decimal p.frame,
        length-decimal (craft p.front),
        length-decimal (vc p.front),
        length-decimal own,
      ))
