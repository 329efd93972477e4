-- A window at the front of a file says all: the batch that it shows is the file's next, and what is wrong at its front is wrong with the
-- file. And where a file goes on, it has a next batch or something is wrong.
use mathlib.Core.Path.{◌≡◌, refl, sym, ap, ◌∙◌}
use mathlib.Core.Logic.{◌⊎◌, inl, inr}
use Prim.Native.Nat.{ℕ, zero, suc, ◌+◌, ◌-◌, ◌≤◌, ◌<◌}
use native.Mathlib.Nat.{le_refl}
use native.Mathlib.Omega.{arith}
use mathlib.Core.Bool.{Bool, true, false, cond, ◌&&◌, and-false}
use mathlib.Core.List.{List, [], ◌∷◌}
use lib.ListN.{length, take, drop, length-append, length-drop}
use lib.Seq.{length-take-le, take_all, take-take, take-add, drop_at}
use borrow.Author.Tests.{leb-true, ltb-false, le-leb, lt-leb, lt-ltb, le-ltb, ne_eqb}
use Rattle.std.specs.Prelude.{Some, None}
use Rattle.rules.specs.declared.Family.{Family}
use Rattle.rules.specs.declared.Measure.{Measure}
use Rattle.rules.specs.declared.Measure.TheVariants.{Lacks, Packet, Idle, Unreadable}
use Rattle.rules.specs.Tests.{◌≤?◌, ◌<?◌, ◌=?◌}
use Rattle.rules.specs.Areas.{joined, batch_size}
use Rattle.rules.specs.Packets.{measure, packets}
use Rattle.rules.proofs.Tests.{split}
use Rattle.streams.specs.declared.file_batches.Wrong.TheVariants as wrong
use Rattle.streams.specs.FileBatches.{fitting, gathered, wrong_of, wrong_at}
use Rattle.rules.proofs.Measures.{measure-take, packet-long}
use Rattle.streams.proofs.Kept.{step, fitting-front}

-- ---- the batch

drop-take : (n w : ℕ) (xs : List ℕ) → n ≤ w → n ≤ length xs → drop n (take w xs) ≡ take (w - n) (drop n xs)
drop-take n w xs h k =
    let s : w ≡ n + (w - n) = omega arith in
    ap (λ (m : ℕ). drop n (take m xs)) s ∙ ap (drop n) (take-add n (w - n) xs)
    ∙ drop_at (take n xs) (take (w - n) (drop n xs)) n (length-take-le n xs k)

-- A packet that is within w octets is as whole there as in the file.
whole-within : (n w : ℕ) (xs : List ℕ) → n ≤ w → n ≤? length (take w xs) ≡ n ≤? length xs
whole-within n w xs h =
    split (length xs) w (λ k. rw (take_all w xs k))
    (λ k. let l : length (take w xs) ≡ w = length-take-le w xs (omega arith) in rw (l, le-leb n w h, le-leb n (length xs) (omega arith)))

module _ (longest room w : ℕ) (xs : List ℕ) (big : room + 8 ≤ w)
    (rest : (n : ℕ) → 2 ≤ n → n ≤ length xs → n ≤ room
    → fitting longest (room - n) (packets (take (w - n) (drop n xs))) ≡ fitting longest (room - n) (packets (drop n xs))) where
  step_same : (m : Measure) → measure xs ≡ m → step longest room (take w xs) m ≡ step longest room xs m
  step_same (Lacks k) e = refl
  step_same (Packet f n) e = split n room small large
    where
      inner : (t : Bool) → n ≤? length xs ≡ t → n ≤ room
          → cond t (cond (n ≤? longest && n ≤? room) (take n (take w xs) ∷ fitting longest (room - n) (packets (drop n (take w xs)))) []) []
          ≡ cond t (cond (n ≤? longest && n ≤? room) (take n xs ∷ fitting longest (room - n) (packets (drop n xs))) []) []
      inner true q h =
          let k : n ≤ length xs = leb-true _ _ q in
          rw (take-take n w xs (omega arith), drop-take n w xs (omega arith) k, rest n (packet-long xs f n e) k h)
      inner false q h = refl

      small : n ≤ room → step longest room (take w xs) (Packet f n) ≡ step longest room xs (Packet f n)
      small h = rw (whole-within n w xs (omega arith)) (inner (n ≤? length xs) refl h)

      nil : (t : Bool) → ◌≡◌ {A = List (List ℕ)} (cond t [] []) []
      nil true = refl
      nil false = refl

      large : room < n → step longest room (take w xs) (Packet f n) ≡ step longest room xs (Packet f n)
      large h = rw (lt-leb n room h, and-false (n ≤? longest), nil (n ≤? length (take w xs)), nil (n ≤? length xs))
  step_same (Idle n) e = refl
  step_same Unreadable e = refl

  same-front : fitting longest room (packets (take w xs)) ≡ fitting longest room (packets xs)
  same-front =
      fitting-front longest room (take w xs) ∙ ap (step longest room (take w xs)) (measure-take w xs (omega arith))
      ∙ step_same (measure xs) refl ∙ sym (fitting-front longest room xs)

same-up-to : (k longest room w : ℕ) (xs : List ℕ) → length xs ≤ k → room + 8 ≤ w
    → fitting longest room (packets (take w xs)) ≡ fitting longest room (packets xs)
same-up-to zero longest room w xs h big = same-front longest room w xs big (λ n s k r. absurd (omega arith))
same-up-to (suc k) longest room w xs h big =
    same-front longest room w xs big
    (λ n s l r. same-up-to k longest (room - n) (w - n) (drop n xs) (rw (length-drop n xs) (omega arith)) (omega arith))

pub gathered_window : (longest w : ℕ) (xs : List ℕ) → 32776 ≤ w → gathered longest (take w xs) ≡ gathered longest xs
unfolding gathered
gathered_window longest w xs h = ap (λ (us : List (List ℕ)). length (joined us)) (same-up-to (length xs) longest batch_size w xs (le_refl _) (omega arith))

-- ---- what is wrong

short-within : (n w : ℕ) (xs : List ℕ) → n ≤ w → length (take w xs) <? n ≡ length xs <? n
short-within n w xs h =
    split (length xs) w (λ k. rw (take_all w xs k))
    (λ k. let l : length (take w xs) ≡ w = length-take-le w xs (omega arith) in rw (l, le-ltb w n h, le-ltb (length xs) n (omega arith)))

pub wrong_window : (longest w : ℕ) (xs : List ℕ) → longest ≤ w → 8 ≤ w → wrong_at longest (take w xs) ≡ wrong_at longest xs
unfolding wrong_at wrong_of
wrong_window longest w xs h eight = ap (λ (m : Measure). wrong_of longest m (length (take w xs))) (measure-take w xs eight) ∙ go (measure xs)
  where
    cut : (n : ℕ) (t : Bool) → longest <? n ≡ t
        → cond t (Some (wrong.Long n)) (cond (length (take w xs) <? n) (Some wrong.Cut) None)
        ≡ cond t (Some (wrong.Long n)) (cond (length xs <? n) (Some wrong.Cut) None)
    cut n true e = refl
    cut n false e = let k : n ≤ longest = ltb-false _ _ e in rw (short-within n w xs (omega arith))

    none : cond (length (take w xs) =? 0) None (Some wrong.Cut) ≡ cond (length xs =? 0) None (Some wrong.Cut)
    none =
        split (length xs) w (λ k. rw (take_all w xs k))
        (λ k. let l : length (take w xs) ≡ w = length-take-le w xs (omega arith) in rw
        (l, ne_eqb w 0 (λ q. omega arith), ne_eqb (length xs) 0 (λ q. omega arith)))

    go : (m : Measure) → wrong_of longest m (length (take w xs)) ≡ wrong_of longest m (length xs)
    go (Lacks k) = none
    go (Packet f n) = cut n (longest <? n) refl
    go (Idle n) = refl
    go Unreadable = refl

-- Octets that are left are a batch and more, or something is wrong with the first packet.
pub batch_or_wrong : (longest : ℕ) (xs : List ℕ) → longest ≤ batch_size → 0 < length xs
    → (gathered longest xs ≡ 0 → ⊥) ⊎ (wrong_at longest xs ≡ None → ⊥)
unfolding gathered wrong_at wrong_of joined
batch_or_wrong longest xs h some = go (measure xs) refl
  where
    Either : Measure → Type 0
    Either m = (length (joined (fitting longest batch_size (packets xs))) ≡ 0 → ⊥) ⊎ (wrong_of longest m (length xs) ≡ None → ⊥)

    batch : (f : Family) (n : ℕ) → measure xs ≡ Packet f n → n ≤ longest → n ≤ length xs → length (joined (fitting longest batch_size (packets xs))) ≡ 0 → ⊥
    batch f n e k l z =
        let r : fitting longest batch_size (packets xs) ≡ take n xs ∷ fitting longest (batch_size - n) (packets (drop n xs)) =
        fitting-front longest batch_size xs ∙ rw (e, le-leb n (length xs) l, le-leb n longest k, le-leb n batch_size (omega arith)) in
        let s = length-append (take n xs) (joined (fitting longest (batch_size - n) (packets (drop n xs)))) in
        let t = length-take-le n xs l in
        let p = packet-long xs f n e in
        let q = ap (λ (us : List (List ℕ)). length (joined us)) r in
        omega (arith, s, t, p, q, z)

    go : (m : Measure) → measure xs ≡ m → Either m
    go (Lacks k) e = inr (rw (ne_eqb (length xs) 0 (λ q. omega arith)) (λ q. let z : ◌≡◌ {A = ℕ} 0 1 = cc in omega arith))
    go (Packet f n) e =
        split n longest
        (λ k. split n (length xs) (λ l. inl (batch f n e k l))
        (λ l. inr (rw (le-ltb longest n k, lt-ltb (length xs) n l) (λ q. let z : ◌≡◌ {A = ℕ} 0 1 = cc in omega arith))))
        (λ k. inr (rw (lt-ltb longest n k) (λ q. let z : ◌≡◌ {A = ℕ} 0 1 = cc in omega arith)))
    go (Idle n) e = inr (λ q. let z : ◌≡◌ {A = ℕ} 0 1 = cc in omega arith)
    go Unreadable e = inr (λ q. let z : ◌≡◌ {A = ℕ} 0 1 = cc in omega arith)
