-- What is gathered is a batch that keeps its rule, and no packet more would fit.
use mathlib.Core.Path.{◌≡◌, refl, sym, ap, ◌∙◌}
use Prim.Native.Nat.{ℕ, zero, suc, ◌+◌, ◌-◌, ◌≤◌, ◌<◌}
use native.Mathlib.Nat.{le_refl, sub-zero}
use native.Mathlib.Omega.{arith}
use mathlib.Core.Bool.{Bool, true, false, cond, ◌&&◌}
use mathlib.Core.List.{List, [], ◌∷◌, ◌++◌, append-nil}
use lib.ListN.{length, take, drop, length-append, length-drop}
use lib.Seq.{length-take-le, take-add, take_at, drop_at, drop-drop}
use borrow.Author.Tests.{leb-true, le-leb, eq-eqb}
use Rattle.rules.specs.declared.Kind.TheVariants.{Packets}
use Rattle.rules.specs.declared.Family.{Family}
use Rattle.rules.specs.declared.Measure.{Measure}
use Rattle.rules.specs.declared.Measure.TheVariants.{Lacks, Packet, Idle, Unreadable}
use Rattle.rules.specs.Tests.{◌≤?◌, all}
use Rattle.rules.specs.Areas.{joined, batch_size}
use Rattle.rules.specs.Packets.{measure, whole, packets_up_to, packets}
use Rattle.rules.specs.Writing.{none_above, batch_ok}
use Rattle.rules.proofs.Tests.{split, and_left, and_right}
use Rattle.rules.proofs.Measures.{begins, packet-long, packet-front}
use Rattle.batches.proofs.Batches.{packets-front}
use Rattle.streams.specs.FileBatches.{fitting, gathered}

-- ---- one packet

-- What fits of the packets, by what stands at the front.
abbrev pub step : ℕ → ℕ → List ℕ → Measure → List (List ℕ)
step longest room xs (Lacks k) = []
step longest room xs (Packet f n) =
    cond (n ≤? length xs) (cond (n ≤? longest && n ≤? room) (take n xs ∷ fitting longest (room - n) (packets (drop n xs))) []) []
step longest room xs (Idle n) = []
step longest room xs Unreadable = []

pub fitting-front : (longest room : ℕ) (xs : List ℕ) → fitting longest room (packets xs) ≡ step longest room xs (measure xs)
unfolding fitting
fitting-front longest room xs = ap (fitting longest room) (packets-front xs) ∙ go (measure xs)
  where
    by : (n : ℕ) (t : Bool) → n ≤? length xs ≡ t
        → fitting longest room (cond t (take n xs ∷ packets (drop n xs)) [])
        ≡ cond t (cond (n ≤? longest && n ≤? room) (take n xs ∷ fitting longest (room - n) (packets (drop n xs))) []) []
    by n true e = rw (length-take-le n xs (leb-true _ _ e))
    by n false e = refl

    go : (m : Measure) → fitting longest room (whole m xs packets) ≡ step longest room xs m
    go (Lacks k) = refl
    go (Packet f n) = by n (n ≤? length xs) refl
    go (Idle n) = refl
    go Unreadable = refl

-- ---- all of them

-- What is so of the packets that fit into the room: they are the packets of as many octets, within the room, none above the
-- longest, and of the octets behind them nothing fits into the room left.
pub record Fitted (longest room : ℕ) (xs : List ℕ) (us : List (List ℕ)) : Type 0 where
  pub packs : packets (take (length (joined us)) xs) ≡ us
  pub inside : length (joined us) ≤ length xs
  pub small : length (joined us) ≤ room
  pub short : none_above longest us ≡ true
  pub full : fitting longest (room - length (joined us)) (packets (drop (length (joined us)) xs)) ≡ []

none_fits : (longest room : ℕ) (xs : List ℕ) → fitting longest room (packets xs) ≡ [] → Fitted longest room xs []
unfolding joined none_above packets packets_up_to
none_fits longest room xs e = record { packs = refl; inside = omega arith; small = omega arith; short = refl; full = rw (sub-zero room) e }

module _ (longest room : ℕ) (xs : List ℕ) (f : Family) (n : ℕ) (is : measure xs ≡ Packet f n) (within : n ≤ length xs) where
  cut : (g : ℕ) → n + g ≤ length xs → packets (take (n + g) xs) ≡ take n xs ∷ packets (take g (drop n xs))
  cut g h =
      let b = begins xs f n is in
      let same : measure (take (n + g) xs) ≡ Packet f n =
      ap measure (sym (append-nil (take (n + g) xs))) ∙ packet-front xs f n is (n + g) (omega (arith, b.header)) h [] in
      let l : length (take n xs) ≡ n = length-take-le n xs within in
      let m : length (take (n + g) xs) ≡ n + g = length-take-le (n + g) xs h in
      packets-front (take (n + g) xs)
      ∙ ap (λ (k : Measure). whole k (take (n + g) xs) packets) same
      ∙ rw (m, le-leb n (n + g) (omega arith), take-add n g xs, take_at (take n xs) (take g (drop n xs)) n l, drop_at (take n xs) (take g (drop n xs)) n l)

  one-fits : n ≤ longest → n ≤ room → (us : List (List ℕ)) → Fitted longest (room - n) (drop n xs) us → Fitted longest room xs (take n xs ∷ us)
  unfolding joined none_above
  one-fits h k us rest =
      let l : length (take n xs) ≡ n = length-take-le n xs within in
      let s : length (take n xs ++ joined us) ≡ n + length (joined us) = length-append (take n xs) (joined us) ∙ ap (λ (i : ℕ). i + length (joined us)) l in
      let d : length (drop n xs) ≡ length xs - n = length-drop n xs in
      let r : room - (n + length (joined us)) ≡ room - n - length (joined us) = omega arith in
      record {
        packs = rw s (cut (length (joined us)) (omega (arith, rest.inside)) ∙ ap (λ (ps : List (List ℕ)). take n xs ∷ ps) rest.packs);
        inside = omega (arith, rest.inside);
        small = omega (arith, rest.small);
        short = rw (l, le-leb n longest h) rest.short;
        full = rw (s, r, ← drop-drop (length (joined us)) n xs) rest.full;
      }

-- By what stands at the front, with what is so of shorter octets.
fitted_front : (longest room : ℕ) (xs : List ℕ)
    → ((n : ℕ) → 2 ≤ n → n ≤ length xs → Fitted longest (room - n) (drop n xs) (fitting longest (room - n) (packets (drop n xs))))
    → Fitted longest room xs (fitting longest room (packets xs))
fitted_front longest room xs rest = rw (fitting-front longest room xs) (go (measure xs) refl)
  where
    none : (m : Measure) → measure xs ≡ m → step longest room xs m ≡ [] → Fitted longest room xs []
    none m e s = none_fits longest room xs (fitting-front longest room xs ∙ ap (step longest room xs) e ∙ s)

    fit : (f : Family) (n : ℕ) → measure xs ≡ Packet f n → n ≤ length xs → (t : Bool) → n ≤? longest && n ≤? room ≡ t
        → Fitted longest room xs (cond t (take n xs ∷ fitting longest (room - n) (packets (drop n xs))) [])
    fit f n e w true q =
        one-fits longest room xs f n e w (leb-true _ _ (and_left _ _ q)) (leb-true _ _ (and_right (n ≤? longest) _ q)) _
        (rest n (packet-long xs f n e) w)
    fit f n e w false q = none (Packet f n) e (rw (le-leb n (length xs) w, q))

    by : (f : Family) (n : ℕ) → measure xs ≡ Packet f n → (t : Bool) → n ≤? length xs ≡ t
        → Fitted longest room xs (cond t (cond (n ≤? longest && n ≤? room) (take n xs ∷ fitting longest (room - n) (packets (drop n xs))) []) [])
    by f n e true q = fit f n e (leb-true _ _ q) (n ≤? longest && n ≤? room) refl
    by f n e false q = none (Packet f n) e (rw q)

    go : (m : Measure) → measure xs ≡ m → Fitted longest room xs (step longest room xs m)
    go (Lacks k) e = none (Lacks k) e refl
    go (Packet f n) e = by f n e (n ≤? length xs) refl
    go (Idle n) e = none (Idle n) e refl
    go Unreadable e = none Unreadable e refl

fitted_up-to : (k longest room : ℕ) (xs : List ℕ) → length xs ≤ k → Fitted longest room xs (fitting longest room (packets xs))
fitted_up-to zero longest room xs h = fitted_front longest room xs (λ n s w. absurd (omega arith))
fitted_up-to (suc k) longest room xs h =
    fitted_front longest room xs (λ n s w. fitted_up-to k longest (room - n) (drop n xs) (rw (length-drop n xs) (omega arith)))

pub fitted : (longest room : ℕ) (xs : List ℕ) → Fitted longest room xs (fitting longest room (packets xs))
fitted longest room xs = fitted_up-to (length xs) longest room xs (le_refl _)

-- ---- the batch

module _ (longest : ℕ) (xs : List ℕ) where
  pub gathered-inside : gathered longest xs ≤ length xs
  unfolding gathered
  gathered-inside = (fitted longest batch_size xs).inside

  -- What is gathered, if anything, keeps the rule of a packet lane's batch.
  pub gathered-ok : (gathered longest xs ≡ 0 → ⊥) → batch_ok Packets longest (take (gathered longest xs) xs) ≡ true
  unfolding gathered batch_ok all
  gathered-ok some =
      let f = fitted longest batch_size xs in
      let l : length (take (gathered longest xs) xs) ≡ gathered longest xs = length-take-le _ xs f.inside in
      rw (
        l,
        f.packs,
        f.short,
        le-leb 1 (gathered longest xs) (omega arith),
        le-leb (gathered longest xs) batch_size f.small,
        eq-eqb (gathered longest xs)
            (gathered longest xs) refl,
      )

  -- The octets left begin with no packet that would still fit.
  pub gathered-full : (f : Family) (n : ℕ) → measure (drop (gathered longest xs) xs) ≡ Packet f n → n ≤ length (drop (gathered longest xs) xs) → n ≤ longest
      → batch_size < gathered longest xs + n
  unfolding gathered
  gathered-full f n e w h =
      let fit = fitted longest batch_size xs in
      let g = length (joined (fitting longest batch_size (packets xs))) in
      split n (batch_size - g)
      (λ r.
      let z : take n (drop g xs) ∷ fitting longest (batch_size - g - n) (packets (drop n (drop g xs))) ≡ [] =
      sym (fitting-front longest (batch_size - g) (drop g xs) ∙ rw (e, le-leb n (length (drop g xs)) w, le-leb n longest h, le-leb n (batch_size - g) r))
      ∙ fit.full in
      let o : ◌≡◌ {A = ℕ} 0 1 = cc in omega arith)
      (λ r. omega (arith, fit.small))
