-- Texts of bounded length, put one after another.
use Prim.Native.Nat.{ℕ, zero, suc, ◌+◌, ◌*◌, ◌≤◌, ◌<◌}
use mathlib.Core.Path.{◌≡◌, refl, sym, ap, ap₂, subst}
use mathlib.Core.Bool.{true}
use mathlib.Core.List.{List, ◌++◌}
use lib.ListN.{length, take, get_or, length-append}
use native.Mathlib.Numerals.{add-one}
use native.Mathlib.Omega.{arith}
use Rattle.rules.specs.declared.Class.{Class}
use Rattle.rules.specs.declared.Verdict.{Verdict}
use Rattle.rules.specs.Listing.{decimal}
use Rattle.listing_text.specs.Puts.{Put, filled, front}
use Rattle.listing_text.proofs.Laws.{put-none, put_then, put-length, length-decimal, length_front}
use Rattle.listing_text.proofs.Patterns.{marked, strung, plains, put-strung, strung-most}
use Rattle.std.proofs.lemmas.List.{get_or-take, length-take-le}
use Rattle.rules.specs.declared.Channel.{Channel}
use Rattle.rules.specs.Settings.{no_channel}
use Rattle.unpack_text.specs.declared.LaneTally.{LaneTally}
use Rattle.unpack_text.specs.declared.ChannelTally.{ChannelTally}
use Rattle.unpack_text.specs.Totals.{no_lane_tally, no_channel_tally}
use Rattle.unpack_text.specs.Lines.{Wrote, third, firsts, lane_line, lane_lines, channel_line, channel_lines}

-- ---- one

pub wrote_text : {xs area : List ℕ} {from : ℕ} {area' : List ℕ} {end : ℕ} → Put xs area from area' end → Wrote (length xs) xs area from area' end
wrote_text p = record { put = p; most = omega arith }

pub wrote_decimal : (v : ℕ) {area : List ℕ} {from : ℕ} {area' : List ℕ} {end : ℕ} → Put (decimal v) area from area' end → Wrote 20
    (decimal v) area from area' end
wrote_decimal v p = record { put = p; most = length-decimal v }

pub wrote_front : (k : ℕ) (c : Class) {area : List ℕ} {from : ℕ} {area' : List ℕ} {end : ℕ} → Put (front k c) area from area' end → Wrote 29
    (front k c) area from area' end
wrote_front k c p = record { put = p; most = length_front k c }

-- A pattern, filled.
pub wrote_filled : (ss : List (List ℕ)) (vs end : List ℕ) {xs area : List ℕ} {from : ℕ} {area' : List ℕ} {at : ℕ} → strung ss vs end ≡ xs
    → plains ss end ≡ true → Put (filled (marked ss end) vs) area from area' at → Wrote (length (marked ss end) + 19 * length vs) xs area from area' at
wrote_filled ss vs end e h p = record { put = put-strung ss vs end e h p; most = strung-most ss vs end e h }

pub wrote_more : {n : ℕ} (m : ℕ) {xs area : List ℕ} {from : ℕ} {area' : List ℕ} {end : ℕ} → n ≤ m → Wrote n xs area from area' end → Wrote m xs area from
    area' end
wrote_more m h w = record { put = w.put; most = omega (arith, w.most) }

pub wrote_third : (v w : Verdict) → v ≡ w → {area : List ℕ} {from : ℕ} {area' : List ℕ} {end : ℕ} → Wrote 20 (third w) area from area' end → Wrote 20
    (third v) area from area' end
wrote_third v w e {area} {from} {area'} {end} p = subst (λ (x : Verdict). Wrote 20 (third x) area from area' end) (sym e) p

-- ---- one after the other

pub wrote_then : {n m : ℕ} {xs ys area : List ℕ} {from : ℕ} {area₁ : List ℕ} {at : ℕ} {area₂ : List ℕ} {end : ℕ}
    → Wrote n xs area from area₁ at → Wrote m ys area₁ at area₂ end → from + n ≤ length area → Wrote (n + m) (xs ++ ys) area from area₂ end
wrote_then {n} {m} {xs} {ys} {area} {from} {area₁} {at} {area₂} {end} p q room =
    record {
      put = put_then xs ys area from area₁ at area₂ end (omega (arith, p.most)) p.put q.put;
      most = omega (arith, p.most, q.most, length-append xs ys);
    }

pub wrote_named : (v : ℕ) {xs area : List ℕ} {from : ℕ} {area₁ : List ℕ} {at : ℕ} {area₂ : List ℕ} {end : ℕ}
    → Put xs area from area₁ at → Put (decimal v) area₁ at area₂ end → from + length xs + 20 ≤ length area → Wrote (length xs + 20)
    (xs ++ decimal v) area from area₂ end
wrote_named v p q room = wrote_then (wrote_text p) (wrote_decimal v q) (omega arith)

module _ {n₁ n₂ n₃ : ℕ} {x₁ x₂ x₃ area : List ℕ} {from : ℕ} {a₁ : List ℕ} {e₁ : ℕ} {a₂ : List ℕ} {e₂ : ℕ} {a₃ : List ℕ} {e₃ : ℕ} where
  pub wrote-three : Wrote n₁ x₁ area from a₁ e₁ → Wrote n₂ x₂ a₁ e₁ a₂ e₂ → Wrote n₃ x₃ a₂ e₂ a₃ e₃ → from + (n₁ + n₂ + n₃) ≤ length area
      → Wrote (n₁ + n₂ + n₃) (x₁ ++ x₂ ++ x₃) area from a₃ e₃
  wrote-three p q r room = wrote_then (wrote_then p q (omega arith)) r (omega arith)

-- ---- line after line

pub wrote_none : (line : ℕ → List ℕ) (area : List ℕ) (from : ℕ) → Wrote 0 (firsts line 0) area from area from
unfolding firsts
wrote_none line area from = record { put = put-none area from; most = omega arith }

pub wrote_next : (line : ℕ → List ℕ) (i k : ℕ) {n m : ℕ} {area : List ℕ} {from : ℕ} {a₁ : List ℕ} {at : ℕ} {a₂ : List ℕ} {end : ℕ}
    → Wrote n (firsts line i) area from a₁ at → Wrote m (line i) a₁ at a₂ end → from + n ≤ length area → n + m ≤ k → Wrote k (firsts line
    (i + 1)) area from a₂ end
unfolding firsts
wrote_next line i k p q room few = rw (add-one i) (wrote_more k few (wrote_then p q room))

pub wrote_all : (line : ℕ → List ℕ) (k : ℕ) {i n m : ℕ} {area : List ℕ} {from : ℕ} {area' : List ℕ} {end : ℕ}
    → Wrote m (firsts line i) area from area' end → i ≡ n → m ≤ k → Wrote k (firsts line n) area from area' end
wrote_all line k {area = area} {from = from} {area' = area'} {end = end} w e few =
    subst (λ (j : ℕ). Wrote k (firsts line j) area from area' end) e (wrote_more k few w)

pub wrote_length : {n : ℕ} {xs area : List ℕ} {from : ℕ} {area' : List ℕ} {end : ℕ} → Wrote n xs area from area' end → from + n ≤ length area → length
    area' ≡ length area
wrote_length w room = put-length w.put (omega (arith, w.most))

-- ---- the first of some lines

firsts-same : (f g : ℕ → List ℕ) (n : ℕ) → ((i : ℕ) → i < n → f i ≡ g i) → firsts f n ≡ firsts g n
unfolding firsts
firsts-same f g zero h = refl
firsts-same f g (suc n) h = ap₂ (λ (xs ys : List ℕ). xs ++ ys) (firsts-same f g n (λ i k. h i (omega arith))) (h n (omega arith))

pub lanes_first : (ts : List LaneTally) (n : ℕ) → n ≤ length ts → lane_lines (take n ts) (length (take n ts)) ≡ lane_lines ts n
unfolding lane_lines
lanes_first ts n k = rw (length-take-le n ts k) (firsts-same _ _ n (λ i h. ap (lane_line i) (get_or-take n ts i no_lane_tally h)))

pub channels_first : (cs : List Channel) (n : ℕ) (ts : List ChannelTally) → n ≤ length cs
    → channel_lines (take n cs) (length (take n cs)) ts ≡ channel_lines cs n ts
unfolding channel_lines
channels_first cs n ts k =
    rw (length-take-le n cs k)
    (firsts-same _ _ n (λ i h. ap (λ (c : Channel). channel_line c.vc c.service (get_or ts i no_channel_tally)) (get_or-take n cs i no_channel h)))

-- ---- what is left for the text that comes next

pub room_after : (m : ℕ) {n : ℕ} {xs area : List ℕ} {from : ℕ} {area' : List ℕ} {end : ℕ} → Wrote n xs area from area' end
    → from + (n + m) ≤ length area → end + m ≤ length area'
room_after m w room = omega (arith, w.most, w.put.ends, wrote_length w (omega (arith, room)), room)
