-- The page has no gap and no overlap: fields that fit are read back from the octets that they make, and octets are made by the fields that they
-- are read as and by no others that fit.
use mathlib.Core.Path.{◌≡◌, refl, sym, ap, ap₂, ◌∙◌}
use Prim.Native.Nat.{ℕ, ◌+◌, ◌*◌, ◌/◌, ◌%◌, ◌^◌, ◌<◌}
use native.Mathlib.Nat.{mod-lt, mod-eq_of_lt, mod-one}
use native.Mathlib.Omega.{arith}
use mathlib.Core.List.{List, [], ◌∷◌, ◌++◌, append-nil}
use lib.ListN.{length, take}
use lib.Seq.{take_all}
use lib.Pow.{pow_pos, mod-pow-add}
use Rattle.rules.specs.Octets.{be, num, widths, packed, bits, total, fields_of}
use Rattle.rules.specs.Frames.{header_widths, data_widths}
use Rattle.rules.proofs.Octets.{Octets, Fit, num-below, be-num, bits_back}
use Rattle.header.specs.declared.Head.{Head}
use Rattle.header.specs.declared.Data.{Data}
use Rattle.header.specs.Heads.{head_of, data_of, head_fields, data_fields, head_octets, data_octets}

-- ---- fields of any widths

-- The numbers in fields of these widths, the last of which ends with the number.
values : List ℕ → ℕ → List ℕ
values [] x = []
values (w ∷ ws) x = x / 2 ^ total ws % 2 ^ w ∷ values ws x

values_fit : (ws : List ℕ) (x : ℕ) → Fit (fields_of ws (values ws x))
unfolding values
values_fit [] x = tt
values_fit (w ∷ ws) x = (mod-lt (x / 2 ^ total ws) (pow_pos w), values_fit ws x)

values-widths : (ws : List ℕ) (x : ℕ) → widths (fields_of ws (values ws x)) ≡ total ws
unfolding values widths
values-widths [] x = refl
values-widths (w ∷ ws) x = ap (λ (n : ℕ). w + n) (values-widths ws x)

-- They make the number again.
values-packed : (ws : List ℕ) (x : ℕ) → packed (fields_of ws (values ws x)) ≡ x % 2 ^ total ws
unfolding values packed
values-packed [] x = sym (mod-one x)
values-packed (w ∷ ws) x =
    ap₂ (λ (n m : ℕ). x / 2 ^ total ws % 2 ^ w * 2 ^ n + m) (values-widths ws x) (values-packed ws x)
    ∙ sym (mod-pow-add x w (total ws))

-- Fields that fill n octets, read from n octets, make these octets.
values_octets : (ws : List ℕ) (n : ℕ) (xs : List ℕ) → 256 ^ n ≡ 2 ^ total ws → length xs ≡ n → Octets xs
    → be n (packed (fields_of ws (values ws (num (take n xs))))) ≡ xs
values_octets ws n xs e l o =
    let b : num xs < 2 ^ total ws = rw (← e, ← l) (num-below xs o) in
    ap (λ (ys : List ℕ). be n (packed (fields_of ws (values ws (num ys))))) (take_all n xs (omega arith))
    ∙ ap (be n) (values-packed ws (num xs) ∙ mod-eq_of_lt b) ∙ ap (λ (m : ℕ). be m (num xs)) (sym l) ∙ be-num xs o

-- ---- the two headers

-- Each field is within its width.
abbrev pub HeadFits : Head → Type 0
unfolding head_fields
HeadFits h = Fit (head_fields h)

abbrev pub DataFits : Data → Type 0
unfolding data_fields
DataFits d = Fit (data_fields d)

-- What was written is read back, whatever follows it.
module _ (h : Head) (rest : List ℕ) (o : HeadFits h) where
  pub head-back : head_of (head_octets h ++ rest) ≡ h
  unfolding head_of head_octets head_fields widths
  head-back =
      λ i.
      record {
        version = bits_back 7 (head_fields h) 0 rest (omega arith) o refl i;
        craft = bits_back 7 (head_fields h) 1 rest (omega arith) o refl i;
        bit = bits_back 7 (head_fields h) 2 rest (omega arith) o refl i;
        vc = bits_back 7 (head_fields h) 3 rest (omega arith) o refl i;
        map = bits_back 7 (head_fields h) 4 rest (omega arith) o refl i;
        ending = bits_back 7 (head_fields h) 5 rest (omega arith) o refl i;
        length = bits_back 7 (head_fields h) 6 rest (omega arith) o refl i;
        bypass = bits_back 7 (head_fields h) 7 rest (omega arith) o refl i;
        command = bits_back 7 (head_fields h) 8 rest (omega arith) o refl i;
        spare = bits_back 7 (head_fields h) 9 rest (omega arith) o refl i;
        ocf = bits_back 7 (head_fields h) 10 rest (omega arith) o refl i;
        octets = bits_back 7 (head_fields h) 11 rest (omega arith) o refl i;
      }

pub data_back : (d : Data) (rest : List ℕ) → DataFits d → data_of (data_octets d ++ rest) ≡ d
unfolding data_of data_octets data_fields widths
data_back d rest o =
    λ i.
    record {
      rule = bits_back 3 (data_fields d) 0 rest (omega arith) o refl i;
      upid = bits_back 3 (data_fields d) 1 rest (omega arith) o refl i;
      pointer = bits_back 3 (data_fields d) 2 rest (omega arith) o refl i;
    }

-- These octets are made by x and by nothing else that fits.
pub record MadeBy {A : Type 0} (Fits : A → Type 0) (octets : A → List ℕ) (xs : List ℕ) (x : A) : Type 0 where
  pub fits : Fits x
  pub made : octets x ≡ xs
  pub only : (y : A) → Fits y → octets y ≡ xs → y ≡ x

-- Every string of seven octets is the primary header, before its count, of exactly one struct of fields in range.
pub head-once : (xs : List ℕ) → Octets xs → length xs ≡ 7 → MadeBy HeadFits head_octets xs (head_of xs)
unfolding head_of head_octets head_fields values bits
head-once xs o l =
    record {
      fits = values_fit header_widths (num (take 7 xs));
      made = values_octets header_widths 7 xs refl l o;
      only = λ y f e. sym (head-back y [] f) ∙ ap head_of (append-nil (head_octets y) ∙ e);
    }

-- Every string of three octets is the data field's header of exactly one.
pub data_once : (xs : List ℕ) → Octets xs → length xs ≡ 3 → MadeBy DataFits data_octets xs (data_of xs)
unfolding data_of data_octets data_fields values bits
data_once xs o l =
    record {
      fits = values_fit data_widths (num (take 3 xs));
      made = values_octets data_widths 3 xs refl l o;
      only = λ y f e. sym (data_back y [] f) ∙ ap data_of (append-nil (data_octets y) ∙ e);
    }
