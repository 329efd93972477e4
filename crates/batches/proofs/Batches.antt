-- The packets of a batch, one at a time from its first octet on: whether they are all of it, and where they start.
use mathlib.Core.Path.{◌≡◌, refl, sym, ap, ◌∙◌}
use Prim.Native.Nat.{ℕ, zero, suc, ◌+◌, ◌-◌, ◌≤◌, ◌<◌}
use native.Mathlib.Nat.{not-suc-le-zero, le_refl, zero-add, add-zero, add_assoc}
use native.Mathlib.Omega.{arith}
use mathlib.Core.Bool.{Bool, true, false, cond, and-false}
use mathlib.Core.List.{List, [], ◌∷◌}
use lib.ListN.{length, take, drop, length-append, length-drop, drop_of_length-le}
use lib.Seq.{length-take-le, take_all, drop-drop}
use borrow.Author.Tests.{leb-true, le-leb, lt-leb, eq-eqb, ne_eqb}
use Rattle.rules.specs.declared.Kind.{Kind}
use Rattle.rules.specs.declared.Kind.TheVariants.{Packets, Access}
use Rattle.std.specs.Prelude.{Option}
use Rattle.std.specs.Prelude.{Some, None}
use Rattle.rules.specs.declared.Family.{Family}
use Rattle.rules.specs.declared.Measure.{Measure}
use Rattle.rules.specs.declared.Measure.TheVariants.{Lacks, Packet, Idle, Unreadable}
use Rattle.rules.specs.Tests.{◌≤?◌, ◌=?◌, all}
use Rattle.rules.specs.Areas.{joined, batch_size}
use Rattle.rules.specs.Packets.{measure, whole, packets_up_to, packets}
use Rattle.rules.specs.Writing.{none_above, batch_ok, start_from}
use Rattle.batches.specs.Starts.{stand, Passes, Stands, Keeps}
use Rattle.rules.proofs.Tests.{same}
use Rattle.rules.proofs.Measures.{measure-cases, measure-none, packet-long}

-- ---- the packets' own equation: no count of packets in it

-- To show something of the step that takes one packet, show it where there is none to take, and where there is a whole one.
whole-cases : (P : ((List ℕ → List (List ℕ)) → List (List ℕ)) → Type 0) (xs : List ℕ) → P (λ rest. [])
    → ((n : ℕ) → 2 ≤ n → n ≤ length xs → P (λ rest. take n xs ∷ rest (drop n xs))) → P (λ rest. whole (measure xs) xs rest)
whole-cases P xs none one =
    measure-cases (λ (m : Measure). P (λ rest. whole m xs rest)) xs (λ k. none) (λ f n h. go n h (n ≤? length xs) refl) (λ n h. none) none
  where
    go : (n : ℕ) → 2 ≤ n → (t : Bool) → n ≤? length xs ≡ t → P (λ rest. cond t (take n xs ∷ rest (drop n xs)) [])
    go n h true e = one n h (leb-true _ _ e)
    go n h false e = none

whole_same : (xs : List ℕ) (f g : List ℕ → List (List ℕ)) → ((ys : List ℕ) → length ys < length xs → f ys ≡ g ys)
    → whole (measure xs) xs f ≡ whole (measure xs) xs g
whole_same xs f g h =
    whole-cases (λ w. w f ≡ w g) xs refl
    (λ n k l. ap (λ (ps : List (List ℕ)). take n xs ∷ ps) (h (drop n xs) (rw length-drop (omega arith))))

none_left : (n : ℕ) (xs : List ℕ) → length xs ≤ 0 → packets_up_to n xs ≡ []
unfolding packets_up_to
none_left zero xs h = refl
none_left (suc n) [] h = rw measure-none
none_left (suc n) (x ∷ xs) h = absurd (not-suc-le-zero h)

enough : (n m : ℕ) (xs : List ℕ) → length xs ≤ n → length xs ≤ m → packets_up_to n xs ≡ packets_up_to m xs
unfolding packets_up_to
enough zero m xs h k = sym (none_left m xs h)
enough (suc n) zero xs h k = none_left (suc n) xs k
enough (suc n) (suc m) xs h k = whole_same xs (packets_up_to n) (packets_up_to m) (λ ys l. enough n m ys (omega arith) (omega arith))

pub packets-front : (xs : List ℕ) → packets xs ≡ whole (measure xs) xs packets
unfolding packets packets_up_to
packets-front xs =
    enough (length xs) (suc (length xs)) xs (le_refl _) (omega arith)
    ∙ whole_same xs (packets_up_to (length xs)) packets (λ ys l. enough (length xs) (length ys) ys (omega arith) (le_refl _))

-- ---- the packet at the front

-- The rest of the octets from one on, as code lends it.
rest : (b : List ℕ) (i : ℕ) → take (length b - i) (drop i b) ≡ drop i b
rest b i = take_all (length b - i) (drop i b) (rw length-drop (omega arith))

-- At octet i, where the measure of the rest is m.
module _ (b : List ℕ) (i : ℕ) (m : Measure) (is : m ≡ measure (take (length b - i) (drop i b))) where
  here : packets (drop i b) ≡ whole m (drop i b) packets
  here = packets-front (drop i b) ∙ ap (λ (m : Measure). whole m (drop i b) packets) (sym (rw (rest b i) at is))

  -- No packet, or an idle one.
  pub none_here : ((f : Family) (n : ℕ) → m ≡ Packet f n → ⊥) → packets (drop i b) ≡ []
  none_here o = here ∙ go m o
    where
      go : (m : Measure) → ((f : Family) (n : ℕ) → m ≡ Packet f n → ⊥) → whole m (drop i b) packets ≡ []
      go (Lacks k) o = refl
      go (Packet f n) o = absurd (o f n refl)
      go (Idle n) o = refl
      go Unreadable o = refl

  module _ (f : Family) (n : ℕ) (e : m ≡ Packet f n) where
    pub long-here : 2 ≤ n
    long-here = packet-long (take (length b - i) (drop i b)) f n (sym is ∙ e)

    -- A packet that is cut.
    pub cut-here : length b - i < n → packets (drop i b) ≡ []
    cut-here h = here ∙ rw (e, length-drop i b, lt-leb n (length b - i) h)

    -- A whole one.
    pub more-here : n ≤ length b - i → packets (drop i b) ≡ take n (drop i b) ∷ packets (drop (i + n) b)
    more-here h = here ∙ rw (e, length-drop i b, le-leb n (length b - i) h, drop-drop n i b)

-- ---- whether they are all of the octets, and none is above the longest

shifted : (n a b x y : ℕ) → a ≡ n + x → b ≡ n + y → a =? b ≡ x =? y
shifted n a b x y p q =
    same x y (λ e. rw (eq-eqb x y e, eq-eqb a b (omega arith))) (λ e. rw (ne_eqb x y e, ne_eqb a b (λ r. e (omega arith))))

module _ (longest : ℕ) (b : List ℕ) (i : ℕ) where
  pub stand-end : length b ≤ i → stand longest (drop i b) ≡ true
  unfolding all packets packets_up_to joined none_above
  stand-end h = rw (drop_of_length-le b h)

  pub stand-none : i < length b → packets (drop i b) ≡ [] → stand longest (drop i b) ≡ false
  unfolding all joined
  stand-none h e = rw (e, length-drop i b, ne_eqb 0 (length b - i) (λ q. omega arith))

  module _ (n : ℕ) (fit : n ≤ length b - i) (e : packets (drop i b) ≡ take n (drop i b) ∷ packets (drop (i + n) b)) where
    size : length (take n (drop i b)) ≡ n
    size = length-take-le n (drop i b) (rw (length-drop i b) fit)

    pub stand-above : longest < n → stand longest (drop i b) ≡ false
    unfolding all none_above
    stand-above h = rw (e, size, lt-leb n longest h) (and-false (length (joined _) =? length (drop i b)))

    same_rest : length (joined (packets (drop i b))) =? length (drop i b)
        ≡ length (joined (packets (drop (i + n) b))) =? length (drop (i + n) b)
    unfolding joined
    same_rest =
        let t : length (joined (packets (drop i b))) ≡ n + length (joined (packets (drop (i + n) b))) = rw (e, length-append, size) in
        let u : length (drop i b) ≡ n + length (drop (i + n) b) = rw (length-drop i b, length-drop (i + n) b) (omega arith) in
        shifted n _ _ _ _ t u

    pub stand-more : n ≤ longest → stand longest (drop i b) ≡ stand longest (drop (i + n) b)
    unfolding all none_above
    stand-more h = rw (same_rest, e, size, le-leb n longest h)

-- ---- where they start

starts_now : (ps : List (List ℕ)) → start_from ps 0 ≡ 0
unfolding start_from
starts_now [] = refl
starts_now (p ∷ ps) = refl

module _ (b : List ℕ) (n i : ℕ) where
  pub start-end : n ≤ i → i + start_from (packets (drop i b)) (n - i) ≡ i
  start-end h = let z : n - i ≡ 0 = omega arith in rw (z, starts_now (packets (drop i b))) (add-zero i)

  pub start_none : packets (drop i b) ≡ [] → i + start_from (packets (drop i b)) (n - i) ≡ i
  unfolding start_from
  start_none e = rw e (add-zero i)

  pub start-more : i < n → (k : ℕ) → k ≤ length b - i → packets (drop i b) ≡ take k (drop i b) ∷ packets (drop (i + k) b)
      → i + start_from (packets (drop i b)) (n - i) ≡ i + k + start_from (packets (drop (i + k) b)) (n - (i + k))
  unfolding start_from
  start-more h k fit e =
      let z : n - i - k ≡ n - (i + k) = omega arith in
      rw (e, ne_eqb (n - i) 0 (λ q. omega arith), length-take-le k (drop i b) (rw (length-drop i b) fit), z) (sym (add_assoc i k _))

-- ---- the invariant of a pass: what is asked of the octets from `from` on is what is asked of those from octet i on

pub record Passing (longest : ℕ) (b : List ℕ) (from to i : ℕ) : Type 0 where
  pub inside : i ≤ length b
  pub stands : stand longest (drop from b) ≡ stand longest (drop i b)
  pub starts : from + start_from (packets (drop from b)) (to - from) ≡ i + start_from (packets (drop i b)) (to - i)

module _ {longest : ℕ} {b : List ℕ} {from to i : ℕ} (p : Passing longest b from to i) where
  -- It ends at octet `to` or later.
  pub passed : to ≤ i → Passes longest b from to i
  passed h = record { reached = h; inside = p.inside; stands = p.stands; starts = p.starts ∙ start-end b to i h }

  -- No packet there.
  pub passed_none : i < length b → packets (drop i b) ≡ [] → stand longest (drop from b) ≡ false
  passed_none h e = p.stands ∙ stand-none longest b i h e

  module _ (n : ℕ) (fit : n ≤ length b - i) (e : packets (drop i b) ≡ take n (drop i b) ∷ packets (drop (i + n) b)) where
    pub passed-above : longest < n → stand longest (drop from b) ≡ false
    passed-above h = p.stands ∙ stand-above longest b i n fit e h

    pub passed-more : i < to → n ≤ longest → Passing longest b from to (i + n)
    passed-more k h =
        record {
          inside = omega (arith, p.inside);
          stands = p.stands ∙ stand-more longest b i n fit e h;
          starts = p.starts ∙ start-more b to i k n fit e;
        }

-- ---- two passes one after the other are one over the whole batch

pub stand_by : (longest : ℕ) (b : List ℕ) (from to i j : ℕ) → Passes longest b 0 to i → Passes longest b i (length b) j → (from ≤ length b → to ≡ from)
    → Stands longest b from (Some i)
stand_by longest b from to i j p q near = (p.stands ∙ q.stands ∙ stand-end longest b j q.reached, start)
  where
    start : from ≤ length b → start_from (packets b) from ≡ i
    start h = let n : from ≡ to - 0 = omega (arith, near h) in ap (start_from (packets b)) n ∙ sym (zero-add _) ∙ p.starts

-- ---- a batch and its packets

module _ (longest : ℕ) (b : List ℕ) (some : 1 ≤ length b) where
  packets-ok : length b ≤ batch_size → batch_ok Packets longest b ≡ stand longest b
  unfolding batch_ok all
  packets-ok most = rw (le-leb 1 (length b) some, le-leb (length b) batch_size most)

  pub packets-keep : length b ≤ batch_size → (from : ℕ) (r : Option ℕ) → Stands longest b from r → Keeps Packets longest b from r
  packets-keep most from (Some i) s = (packets-ok most ∙ s.0, s.1)
  packets-keep most from None s = packets-ok most ∙ s

  -- Too many octets, for either kind, or not too many for an access unit.
  pub packets-above : batch_size < length b → batch_ok Packets longest b ≡ false
  unfolding batch_ok all
  packets-above h = rw (le-leb 1 (length b) some, lt-leb (length b) batch_size h)

  pub access-above : longest < length b → batch_ok Access longest b ≡ false
  unfolding batch_ok all
  access-above h = rw (le-leb 1 (length b) some, lt-leb (length b) longest h)

  pub access-ok : length b ≤ longest → batch_ok Access longest b ≡ true
  unfolding batch_ok all
  access-ok h = rw (le-leb 1 (length b) some, le-leb (length b) longest h)

-- No batch is empty.
pub batch_empty : (k : Kind) (longest : ℕ) (b : List ℕ) → length b ≡ 0 → batch_ok k longest b ≡ false
unfolding batch_ok all
batch_empty Packets longest b e = rw (lt-leb 1 (length b) (omega arith))
batch_empty Access longest b e = rw (lt-leb 1 (length b) (omega arith))
