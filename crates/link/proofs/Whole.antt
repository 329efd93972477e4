-- Whole packets: what the measure says of one, with anything behind it, and of its first octets. A packet batch is whole packets back
-- to back.
use mathlib.Core.Path.{◌≡◌, refl, sym, ap, ◌∙◌}
use mathlib.Core.Logic.{◌⊎◌}
use Prim.Native.Nat.{ℕ, zero, suc, ◌+◌, ◌≤◌, ◌<◌}
use native.Mathlib.Nat.{le_refl}
use native.Mathlib.Omega.{arith}
use mathlib.Core.Bool.{Bool, true, false, cond}
use mathlib.Core.List.{List, [], ◌∷◌, ◌++◌}
use lib.ListN.{length, take, drop, length-append}
use lib.Seq.{length-take-le, take_all, take-take, take-add}
use borrow.Author.Tests.{leb-true, eqb-true}
use Rattle.rules.specs.declared.Kind.TheVariants.{Packets}
use Rattle.rules.specs.declared.Family.{Family}
use Rattle.rules.specs.declared.Measure.{Measure}
use Rattle.rules.specs.declared.Measure.TheVariants.{Lacks, Packet, Idle, Unreadable}
use Rattle.rules.specs.Tests.{◌≤?◌}
use Rattle.rules.specs.Areas.{joined}
use Rattle.rules.specs.Packets.{measure, whole, packets_up_to, packets}
use Rattle.rules.specs.Writing.{none_above, batch_ok}
use Rattle.rules.proofs.Measures.{Lacking, begins, packet-front, packet-part}
use Rattle.rules.proofs.Tests.{and_left, and_right, all-at}

-- A whole packet that is not idle.
pub record Whole (longest : ℕ) (u : List ℕ) : Type 0 where
  pub some : 0 < length u
  pub fits : length u ≤ longest
  pub family : Family
  pub self : (ys : List ℕ) → measure (u ++ ys) ≡ Packet family (length u)
  pub part : (m : ℕ) → m < length u → Lacking (measure (take m u)) ⊎ (measure (take m u) ≡ Packet family (length u))

abbrev pub Wholes : ℕ → List (List ℕ) → Type 0
Wholes longest [] = Unit {0}
Wholes longest (u ∷ us) = Whole longest u × Wholes longest us

measured-whole : (longest : ℕ) (xs : List ℕ) (f : Family) (n : ℕ) → measure xs ≡ Packet f n → n ≤ length xs → length (take n xs) ≤ longest
    → Whole longest (take n xs)
measured-whole longest xs f n e h fits =
    let l : length (take n xs) ≡ n = length-take-le n xs h in
    let b = begins xs f n e in
    record {
      some = omega (arith, l, b.two);
      fits = fits;
      family = f;
      self = λ ys. packet-front xs f n e n b.header h ys ∙ ap (Packet f) (sym l);
      part = λ m k.
          let t : take m (take n xs) ≡ take m xs = take-take m n xs (omega (arith, l)) in
          rw (t, l) (packet-part xs f n e m (omega (arith, l)));
    }

-- ---- the packets of a batch

-- What is said of the packets at the front of some octets.
record Cut (longest : ℕ) (xs : List ℕ) (us : List (List ℕ)) : Type 0 where
  front : joined us ≡ take (length (joined us)) xs
  wholes : none_above longest us ≡ true → Wholes longest us

cut : (longest n : ℕ) (xs : List ℕ) → Cut longest xs (packets_up_to n xs)
unfolding packets_up_to joined none_above
cut longest zero xs = record { front = refl; wholes = λ h. tt }
cut longest (suc n) xs = go (λ k. cut longest n (drop k xs)) (measure xs) refl
  where
    none : Cut longest xs []
    none = record { front = refl; wholes = λ h. tt }

    more : (f : Family) (k : ℕ) → measure xs ≡ Packet f k → k ≤ length xs → (us : List (List ℕ)) → Cut longest (drop k xs) us → Cut longest xs (take k xs ∷ us)
    more f k e h us rest =
        let l : length (take k xs ++ joined us) ≡ k + length (joined us) = length-append (take k xs) (joined us) ∙ ap (λ (i : ℕ). i + length (joined us))
        (length-take-le k xs h) in
        record {
          front =
              ap (λ (ys : List ℕ). take k xs ++ ys) rest.front
              ∙ sym (take-add k (length (joined us)) xs) ∙ ap (λ (i : ℕ). take i xs) (sym l);
          wholes = λ q. (
            measured-whole longest xs f k e h (leb-true _ _ (and_left _ _ q)),
            rest.wholes (and_right (length (take k xs) ≤? longest) _ q),
          );
        }

    go : ((k : ℕ) → Cut longest (drop k xs) (packets_up_to n (drop k xs))) → (m : Measure) → measure xs ≡ m
        → Cut longest xs (whole m xs (λ (ys : List ℕ). packets_up_to n ys))
    go rest (Lacks k) e = none
    go rest (Packet f k) e = by (k ≤? length xs) refl
      where
        by : (t : Bool) → k ≤? length xs ≡ t → Cut longest xs (cond t (take k xs ∷ packets_up_to n (drop k xs)) [])
        by true q = more f k e (leb-true _ _ q) (packets_up_to n (drop k xs)) (rest k)
        by false q = none
    go rest (Idle k) e = none
    go rest Unreadable e = none

pub record Batch (longest : ℕ) (b : List ℕ) : Type 0 where
  pub some : 1 ≤ length b
  pub wholes : Wholes longest (packets b)
  pub joins : joined (packets b) ≡ b

-- Whole packets of both families back to back.
pub packet_batch : (longest : ℕ) (b : List ℕ) → batch_ok Packets longest b ≡ true → Batch longest b
unfolding batch_ok packets
packet_batch longest b e =
    let c : Cut longest b (packets_up_to (length b) b) = cut longest (length b) b in
    let n : length (joined (packets_up_to (length b) b)) ≡ length b = eqb-true _ _ (all-at _ 2 e) in
    record {
      some = leb-true _ _ (all-at _ 0 e);
      wholes = c.wholes (all-at _ 3 e);
      joins = c.front ∙ ap (λ (i : ℕ). take i b) n ∙ take_all (length b) b (le_refl _);
    }
