-- A packet lane that reads a frame of a batch of whole packets, with z octets of it from `start` on: it hands out those that end there, but for
-- those that began before octet j, and holds what there is of the one that goes on.
use mathlib.Core.Path.{◌≡◌, refl, sym, ap, ap₂, ◌∙◌}
use mathlib.Core.Logic.{◌⊎◌, inl, inr}
use Prim.Native.Nat.{ℕ, zero, suc, ◌+◌, ◌-◌, ◌≤◌, ◌<◌}
use native.Mathlib.Nat.{le_trans, not-suc-le-zero, zero-add, add-zero, add-sub_of_le, sub_self, sub-eq-zero_of_le, le_antisymm}
use native.Mathlib.Omega.{arith}
use mathlib.Core.Bool.{Bool, true, false, cond}
use mathlib.Core.List.{List, [], ◌∷◌, ◌++◌, append-nil, append_assoc}
use lib.ListN.{length, take, drop, replicate, length-append, length-take, length-drop, take-append-drop}
use lib.Seq.{length-take-le, take-nil, take_at, drop_at, take-add, take-append-le, take-append-add, drop-append-le, drop-append-add, take-append_seam, drop-append_seam}
use borrow.Author.Tests.{le-leb, lt-leb, lt-ltb, le-ltb, eq-eqb, ne_eqb}
use Rattle.std.specs.Prelude.{Option, Some, None}
use Rattle.rules.specs.declared.Measure.TheVariants.{Packet}
use Rattle.rules.specs.declared.Next.{Next}
use Rattle.rules.specs.declared.Next.TheVariants.{Give, Skip, Keep}
use Rattle.rules.specs.declared.Fate.{Fate}
use Rattle.rules.specs.declared.Fate.TheVariants.{Hand, Hold}
use Rattle.rules.specs.Tests.{◌≤?◌}
use Rattle.rules.specs.Areas.{joined}
use Rattle.rules.specs.Packets.{measure}
use Rattle.rules.specs.Writing.{start_from, inside}
use Rattle.rules.specs.Reading.{DataUnit, no_unit, unit_from, unit_of, hands, both, end_fate, cut_fate, joined_fate, lead_fate, lead, sized_next, cut_next, next_of, front, walk_up_to, walk, packet_lane}
use Rattle.rules.proofs.Tests.{split}
use Rattle.rules.proofs.Measures.{Lacking, measure-fill}
use Rattle.rules.proofs.Lanes.{walk-front}
use Rattle.link.specs.Due.{ending}
use Rattle.link.proofs.Whole.{Whole, Wholes}
use Rattle.link.proofs.Spans.{Filled, Yield, yields, yield, becomes, spanned, begun, onward, onward_new, onward_old, begun-whole, begun-now, begun-on, held_from, none_yet, held-past, held-here, first-before, first-within, first-after}

pub wholes-filled : (longest : ℕ) (us : List (List ℕ)) → Wholes longest us → Filled us
wholes-filled longest [] w = tt
wholes-filled longest (u ∷ us) w = (w.0.some, wholes-filled longest us w.1)

take-over : (m : ℕ) (xs ys : List ℕ) → length xs ≤ m → take m (xs ++ ys) ≡ xs ++ take (m - length xs) ys
take-over m xs ys h = ap (λ (k : ℕ). take k (xs ++ ys)) (sym (add-sub_of_le h)) ∙ take-append-add xs ys (m - length xs)

abbrev filler : ℕ → List ℕ
filler n = replicate n 0xE0

-- ---- one packet

module _ (longest : ℕ) (u : List ℕ) (w : Whole longest u) where
  next-whole : (ys : List ℕ) → next_of longest (measure (u ++ ys)) (length (u ++ ys)) ≡ Give (length u)
  unfolding next_of sized_next
  next-whole ys =
      let h : length u ≤ length (u ++ ys) = omega (arith, length-append u ys) in
      rw (w.self ys, le-leb _ _ w.fits, le-leb _ _ h)

  -- A packet at the front is given, and the walk goes on after it.
  walk-whole : (ys : List ℕ) → yield (walk longest (u ++ ys)) ≡ yields (unit_of u ∷ (walk longest ys).units) (walk longest ys).held
  walk-whole ys =
      ap yield (walk-front longest (u ++ ys) ∙ ap (λ (n : Next). front n (u ++ ys) (walk longest)) (next-whole ys))
      ∙ ap₂ (λ (p q : List ℕ). yield (hands (unit_of p) (walk longest q))) (take-append_seam u ys) (drop-append_seam u ys)

  next-part : (m : ℕ) → m < length u → next_of longest (measure (take m u)) (length (take m u)) ≡ Keep
  unfolding next_of sized_next cut_next
  next-part m h =
      let l : length (take m u) < length u = omega (arith, length-take m u) in
      by (w.part m h) l
    where
      by : Lacking (measure (take m u)) ⊎ (measure (take m u) ≡ Packet w.family (length u)) → length (take m u) < length u
          → next_of longest (measure (take m u)) (length (take m u)) ≡ Keep
      by (inl e) l = rw (e.is, lt-leb longest (length (take m u)) (omega (arith, w.fits)))
      by (inr e) l = rw (e, le-leb _ _ w.fits, lt-leb _ _ l)

  -- One that is cut is held.
  walk-part : (m : ℕ) → m < length u → yield (walk longest (take m u)) ≡ yields [] (unit_of (take m u))
  walk-part m h = ap yield (walk-front longest (take m u) ∙ ap (λ (n : Next). front n (take m u) (walk longest)) (next-part m h))

  fate-ends : (on : Bool) → joined_fate longest on (measure u) (length u) ≡ Hand
  unfolding joined_fate end_fate
  fate-ends on =
      let e : measure u ≡ Packet w.family (length u) = ap measure (sym (append-nil u)) ∙ w.self [] in
      rw (e, le-leb _ _ w.fits, eq-eqb (length u) (length u) refl)

  fate_goes : (m : ℕ) → m < length u → joined_fate longest true (measure (take m u)) m ≡ Hold
  unfolding joined_fate end_fate cut_fate
  fate_goes m h = by (w.part m h)
    where
      by : Lacking (measure (take m u)) ⊎ (measure (take m u) ≡ Packet w.family (length u)) → joined_fate longest true (measure (take m u)) m ≡ Hold
      by (inl e) = rw (e.is, lt-leb longest m (omega (arith, w.fits)))
      by (inr e) = rw (e, le-leb _ _ w.fits, ne_eqb (length u) m (λ q. omega arith), lt-ltb _ _ h)

-- ---- held octets and lead

module _ (longest : ℕ) (on : Bool) where
  -- "With nothing held, the lead is dropped."
  lead-none : (xs : List ℕ) → yield (lead longest on no_unit xs) ≡ yields [] no_unit
  unfolding lead lead_fate
  lead-none xs = refl

  -- "Otherwise the lead follows the held octets."
  lead-joined : (held : DataUnit) (xs ys : List ℕ) → 0 < length held.octets → 0 < length xs → held.octets ++ xs ≡ ys
      → yield (lead longest on held xs) ≡ becomes (joined_fate longest on (measure ys) (length ys)) (unit_from held xs)
  unfolding lead lead_fate
  lead-joined held xs ys h k e =
      let n : length held.octets + length xs ≡ length ys = sym (length-append held.octets xs) ∙ ap length e in
      rw (ne_eqb (length held.octets) 0 (λ q. omega arith), ne_eqb (length xs) 0 (λ q. omega arith))
      (ap₂ (λ (l : List ℕ) (i : ℕ). becomes (joined_fate longest on (measure l) i) (unit_from held xs)) e n)

-- ---- the octets from the pointer on

module _ (longest z : ℕ) (zp : 0 < z) (j : ℕ) (carried : ℕ → ℕ) (start : ℕ) (js : j ≤ start) where
  -- The spans with this frame.
  abbrev now : ℕ → ℕ
  now = onward start carried

  abbrev ends : ℕ → List (List ℕ) → List DataUnit
  ends a us = ending start (start + z) (λ (i : ℕ). j ≤? i) (spanned now) a us

  abbrev held : ℕ → ℕ → List (List ℕ) → DataUnit
  held a o us = held_from j now a o us

  -- A unit that begins in this frame is not lost.
  not-lost : (a : ℕ) → start ≤ a → j ≤? a ≡ true
  not-lost a h = le-leb _ _ (le_trans js h)

  -- Its span is 1, whole or cut.
  span-part : (a : ℕ) → start ≤ a → (xs : List ℕ) → unit_of xs ≡ begun (now a) xs
  span-part a h xs = begun-now xs ∙ ap (λ (k : ℕ). begun k xs) (sym (onward_new start carried a h))

  span-whole : (a : ℕ) → start ≤ a → (u : List ℕ) → 0 < length u → unit_of u ≡ spanned now a u
  span-whole a h u s = span-part a h u ∙ begun-whole (now a) u s

  fill-next : (n : ℕ) → 1 ≤ longest → next_of longest (measure (filler (suc n))) (length (filler (suc n))) ≡ Skip 1
  unfolding next_of sized_next
  fill-next n h =
      let l : 1 ≤ length (filler (suc n)) = omega arith in
      rw (measure-fill (filler n), le-leb _ _ h, le-leb _ _ l)

  -- "The rest of the last zone is E0 octets": each is an idle packet.
  walk-fill : (n : ℕ) → 1 ≤ longest → yield (walk longest (filler n)) ≡ yields [] no_unit
  walk-fill zero h = unfold walk walk_up_to in refl
  walk-fill (suc n) h =
      ap yield (walk-front longest (filler (suc n)) ∙ ap (λ (s : Next). front s (filler (suc n)) (walk longest)) (fill-next n h))
      ∙ walk-fill n h

  -- Units that begin in this frame, with m octets of them in it, and fill where they end in it.
  walk-due : (us : List (List ℕ)) (a m n : ℕ) → 1 ≤ longest → Wholes longest us → start ≤ a → a + m ≡ start + z → (n ≡ 0) ⊎ (length (joined us) ≤ m)
      → yield (walk longest (take m (joined us) ++ filler n)) ≡ yields (ends a us) (held a m us)
  unfolding joined ending held_from
  walk-due [] a m n one w h e f = ap (λ (xs : List ℕ). yield (walk longest (xs ++ filler n))) (take-nil m) ∙ walk-fill n one
  walk-due (u ∷ us) a m n one w h e f =
      split (length u) m
      (λ g. whole g (walk-due us (a + length u) (m - length u) n one w.1 (omega arith) (omega arith) (fits f)))
      (λ g. part g f)
    where
      fits : (n ≡ 0) ⊎ (length (u ++ joined us) ≤ m) → (n ≡ 0) ⊎ (length (joined us) ≤ m - length u)
      fits (inl q) = inl q
      fits (inr q) = inr (omega (arith, length-append u (joined us)))

      whole : length u ≤ m
          → yield (walk longest (take (m - length u) (joined us) ++ filler n)) ≡ yields (ends (a + length u) us) (held (a + length u) (m - length u) us)
          → yield (walk longest (take m (u ++ joined us) ++ filler n)) ≡ yields (ends a (u ∷ us)) (held a m (u ∷ us))
      whole g ih =
          let s = w.0.some in
          let y : List ℕ = take (m - length u) (joined us) ++ filler n in
          ap (λ (xs : List ℕ). yield (walk longest (xs ++ filler n))) (take-over m u (joined us) g)
          ∙ ap (λ (xs : List ℕ). yield (walk longest xs)) (append_assoc u (take (m - length u) (joined us)) (filler n))
          ∙ walk-whole longest u w.0 y
          ∙ ap₂ (λ (x : DataUnit) (r : Yield). yields (x ∷ r.units) r.held) (span-whole a h u s) ih
          ∙ sym
          (ap₂ yields
          (first-within start (start + z) (λ (i : ℕ). j ≤? i) (spanned now) u us a (omega (arith, s)) (omega arith)
          ∙ ap (λ (t : Bool). cond t (spanned now a u ∷ []) [] ++ ends (a + length u) us) (not-lost a h))
          (held-past j now a m u us g))

      part : m < length u → (n ≡ 0) ⊎ (length (u ++ joined us) ≤ m)
          → yield (walk longest (take m (u ++ joined us) ++ filler n)) ≡ yields (ends a (u ∷ us)) (held a m (u ∷ us))
      part g (inr q) = absurd (omega (arith, length-append u (joined us)))
      part g (inl q) =
          ap₂ (λ (xs : List ℕ) (i : ℕ). yield (walk longest (xs ++ filler i))) (take-append-le m u (joined us) (omega arith)) q
          ∙ ap (λ (xs : List ℕ). yield (walk longest xs)) (append-nil (take m u))
          ∙ walk-part longest u w.0 m g
          ∙ ap (yields []) (span-part a h (take m u))
          ∙ sym
          (ap₂ yields
          (first-after start (start + z) (λ (i : ℕ). j ≤? i) (spanned now) u us a (omega arith))
          (held-here j now a m u us g ∙ ap (λ (t : Bool). cond t (begun (now a) (take m u)) no_unit) (not-lost a h)))

  -- ---- the frame's zone, from octet o of the units on

  abbrev zone_from : ℕ → List (List ℕ) → List ℕ
  zone_from o us = take z (drop o (joined us)) ++ filler (z - length (take z (drop o (joined us))))

  -- Fill stands only behind the last unit.
  fill-last : (xs : List ℕ) → (z - length (take z xs) ≡ 0) ⊎ (length xs ≤ z)
  fill-last xs = split z (length xs) (λ h. inl (let e = length-take-le z xs h in omega (arith, e))) (λ h. inr (omega arith))

  inside-at : (n : ℕ) → n < z → inside z n ≡ Some n
  unfolding inside
  inside-at n h = rw (lt-ltb _ _ h)

  inside-not : (n : ℕ) → z ≤ n → inside z n ≡ None
  unfolding inside
  inside-not n h = rw (le-ltb _ _ h)

  -- The packet that stands at octet o is u, which begins at octet a of the batch.
  module _ (one : 1 ≤ longest) (u : List ℕ) (us : List (List ℕ)) (a o : ℕ) (w : Wholes longest (u ∷ us)) (e : a + o ≡ start) where
    abbrev Says : DataUnit → Option ℕ → List ℕ → Type 0
    Says h p zs = yield (packet_lane longest h p zs) ≡ yields (ends a (u ∷ us)) (held a (o + z) (u ∷ us))

    -- It begins with the frame.
    starts : o ≡ 0 → Says no_unit (inside z 0) (zone_from 0 (u ∷ us))
    unfolding packet_lane lead lead_fate both joined
    starts q =
        ap (λ (p : Option ℕ). yield (packet_lane longest no_unit p (zone_from 0 (u ∷ us)))) (inside-at 0 zp)
        ∙ walk-due (u ∷ us) a z (z - length (take z (u ++ joined us))) one w (omega arith) (omega arith) (fill-last (u ++ joined us))
        ∙ ap (λ (i : ℕ). yields (ends a (u ∷ us)) (held a i (u ∷ us))) (sym (ap (λ (i : ℕ). i + z) q ∙ zero-add z))

    -- It began in a frame before.
    module _ (op : 0 < o) (ol : o < length u) where
      abbrev left : ℕ
      left = length u - o

      left-length : length (drop o u) ≡ left
      left-length = length-drop o u

      some-held : 0 < length (take o u)
      some-held = rw (length-take-le o u (omega arith)) op

      -- What there is of it.
      abbrev had : DataUnit
      had = begun (carried a) (take o u)

      -- With octets of this frame, which is one more.
      span-on : (xs ys : List ℕ) → 0 < length xs → take o u ++ xs ≡ ys → unit_from had xs ≡ begun (now a) ys
      span-on xs ys h q =
          begun-on (carried a) (take o u) xs some-held h
          ∙ ap₂ begun (sym (onward_old start carried a (omega arith))) q

      -- What is left of it, or the whole of it where nothing was lost.
      lead-ends : (on t : Bool) → yield (lead longest on (cond t had no_unit) (drop o u)) ≡ yields (cond t (spanned now a u ∷ []) []) no_unit
      lead-ends on true =
          let l : 0 < length (drop o u) = rw left-length (omega arith) in
          lead-joined longest on had (drop o u) u some-held l (take-append-drop o u)
          ∙ ap₂ becomes (fate-ends longest u w.0 on)
          (span-on (drop o u) u l (take-append-drop o u) ∙ begun-whole (now a) u w.0.some)
      lead-ends on false = lead-none longest on (drop o u)

      lead-goes : z < left → (t : Bool)
          → yield (lead longest true (cond t had no_unit) (take z (drop o u))) ≡ yields [] (cond t (begun (now a) (take (o + z) u)) no_unit)
      lead-goes h true =
          let l : length (take z (drop o u)) ≡ z = length-take-le z (drop o u) (rw left-length (omega arith)) in
          let m : length (take (o + z) u) ≡ o + z = length-take-le (o + z) u (omega arith) in
          lead-joined longest true had (take z (drop o u)) (take (o + z) u) some-held (rw l zp) (sym (take-add o z u))
          ∙ ap₂ (λ (n : ℕ) (x : DataUnit). becomes (joined_fate longest true (measure (take (o + z) u)) n) x) m
          (span-on (take z (drop o u)) (take (o + z) u) (rw l zp) (sym (take-add o z u)))
          ∙ ap (λ (f : Fate). becomes f (begun (now a) (take (o + z) u))) (fate_goes longest u w.0 (o + z) (omega arith))
      lead-goes h false = lead-none longest true (take z (drop o u))

      abbrev live : Bool
      live = j ≤? a

      octets-from : drop o (joined (u ∷ us)) ≡ drop o u ++ joined us
      unfolding joined
      octets-from = drop-append-le o u (joined us) (omega arith)

      abbrev behind : ℕ
      behind = z - length (take z (drop o (joined (u ∷ us))))

      -- It goes on after this frame.
      goes : z < left → Says (cond live had no_unit) (inside z left) (zone_from o (u ∷ us))
      unfolding packet_lane
      goes h =
          let x : take z (drop o (joined (u ∷ us))) ≡ take z (drop o u) = ap (take z) octets-from ∙ take-append-le z (drop o u) (joined us)
          (rw left-length (omega arith)) in
          let l : length (take z (drop o u)) ≡ z = length-take-le z (drop o u) (rw left-length (omega arith)) in
          let f : take z (drop o (joined (u ∷ us))) ++ filler behind ≡ take z (drop o u) = ap (λ (ys : List ℕ). ys ++ filler (z - length ys)) x ∙ ap
          (λ (n : ℕ). take z (drop o u) ++ filler (z - n)) l ∙ ap (λ (n : ℕ). take z (drop o u) ++ filler n) (sub_self z) ∙ append-nil (take z (drop o u))
          in
          ap₂ (λ (p : Option ℕ) (zs : List ℕ). yield (packet_lane longest (cond live had no_unit) p zs)) (inside-not left (omega arith)) f
          ∙ lead-goes h live
          ∙ sym
          (ap₂ yields
          (first-after start (start + z) (λ (i : ℕ). j ≤? i) (spanned now) u us a (omega arith))
          (held-here j now a (o + z) u us (omega arith)))

      -- It ends in this frame.
      zone-ends : left ≤ z → zone_from o (u ∷ us) ≡ drop o u ++ (take (z - left) (joined us) ++ filler behind)
      zone-ends h =
          ap (λ (ys : List ℕ). ys ++ filler behind)
          (ap (take z) octets-from ∙ take-over z (drop o u) (joined us) (rw left-length h) ∙ ap (λ (n : ℕ). drop o u ++ take (z - n) (joined us)) left-length)
          ∙ append_assoc (drop o u) (take (z - left) (joined us)) (filler behind)

      fill-fits : left ≤ z → (behind ≡ 0) ⊎ (length (joined us) ≤ z - left)
      fill-fits h = by (fill-last (drop o (joined (u ∷ us))))
        where
          by : (behind ≡ 0) ⊎ (length (drop o (joined (u ∷ us))) ≤ z) → (behind ≡ 0) ⊎ (length (joined us) ≤ z - left)
          by (inl q) = inl q
          by (inr q) = inr (omega (arith, ap length octets-from, length-append (drop o u) (joined us), left-length))

      rest-due : left ≤ z
          → yield (walk longest (take (z - left) (joined us) ++ filler behind)) ≡ yields (ends (a + length u) us) (held (a + length u) (o + z - length u) us)
      rest-due h =
          let n : z - left ≡ o + z - length u = omega arith in
          walk-due us (a + length u) (z - left) behind one w.1 (omega arith) (omega arith) (fill-fits h)
          ∙ ap (λ (i : ℕ). yields (ends (a + length u) us) (held (a + length u) i us)) n

      all-due : left ≤ z
          → yields (cond live (spanned now a u ∷ []) [] ++ ends (a + length u) us) (held (a + length u) (o + z - length u) us)
          ≡ yields (ends a (u ∷ us)) (held a (o + z) (u ∷ us))
      all-due h =
          sym
          (ap₂ yields (first-within start (start + z) (λ (i : ℕ). j ≤? i) (spanned now) u us a (omega arith) (omega arith))
          (held-past j now a (o + z) u us (omega arith)))

      -- Before the frame's end.
      before-end : left < z → Says (cond live had no_unit) (inside z left) (zone_from o (u ∷ us))
      unfolding packet_lane both
      before-end h =
          let rest : List ℕ = take (z - left) (joined us) ++ filler behind in
          let g : left ≤ z = omega arith in
          ap₂ (λ (p : Option ℕ) (zs : List ℕ). yield (packet_lane longest (cond live had no_unit) p zs)) (inside-at left h) (zone-ends g)
          ∙ ap₂ (λ (xs ys : List ℕ). yield (both (lead longest false (cond live had no_unit) xs) (walk longest ys)))
          (take_at (drop o u) rest left left-length) (drop_at (drop o u) rest left left-length)
          ∙ ap₂ (λ (x y : Yield). yields (x.units ++ y.units) y.held) (lead-ends false live) (rest-due g)
          ∙ all-due g

      -- With it.
      at-end : left ≡ z → Says (cond live had no_unit) (inside z left) (zone_from o (u ∷ us))
      unfolding packet_lane
      at-end h =
          let g : left ≤ z = omega arith in
          let n : z - left ≡ 0 = omega arith in
          let l : length (take z (drop o (joined (u ∷ us)))) ≡ z = length-take-le z (drop o (joined (u ∷ us)))
          (omega (arith, ap length octets-from, length-append (drop o u) (joined us), left-length)) in
          let f : behind ≡ 0 = omega (arith, l) in
          let none : take (z - left) (joined us) ++ filler behind ≡ [] = ap₂ (λ (i m : ℕ). take i (joined us) ++ filler m) n f in
          let nil : yields [] no_unit ≡ yields (ends (a + length u) us) (held (a + length u) (o + z - length u) us) = sym
          (ap (λ (xs : List ℕ). yield (walk longest xs)) none ∙ walk-fill 0 one) ∙ rest-due g in
          ap₂ (λ (p : Option ℕ) (zs : List ℕ). yield (packet_lane longest (cond live had no_unit) p zs)) (inside-not left (omega arith))
          (zone-ends g ∙ ap (λ (ys : List ℕ). drop o u ++ ys) none ∙ append-nil (drop o u))
          ∙ lead-ends true live
          ∙ ap (λ (xs : List DataUnit). yields xs no_unit) (sym (append-nil (cond live (spanned now a u ∷ []) [])))
          ∙ ap (λ (y : Yield). yields (cond live (spanned now a u ∷ []) [] ++ y.units) y.held) nil
          ∙ all-due g

      began : Says (cond live had no_unit) (inside z left) (zone_from o (u ∷ us))
      began = split left z (λ h. split z left (λ g. at-end (le_antisymm h g)) before-end) goes

  -- ---- any octet of the units

  start-zero : (us : List (List ℕ)) → start_from us 0 ≡ 0
  unfolding start_from
  start-zero [] = refl
  start-zero (u ∷ us) = refl

  start-on : (u : List ℕ) (us : List (List ℕ)) (o : ℕ) → 0 < o → start_from (u ∷ us) o ≡ length u + start_from us (o - length u)
  unfolding start_from
  start-on u us o h = rw (ne_eqb o 0 (λ e. omega arith))

  pub packet-lane : 1 ≤ longest → (us : List (List ℕ)) (a o : ℕ) → Wholes longest us → a + o ≡ start → o < length (joined us)
      → yield (packet_lane longest (held_from j carried a o us) (inside z (start_from us o - o)) (zone_from o us)) ≡ yields (ends a us) (held a (o + z) us)
  unfolding joined
  packet-lane one [] a o w e l = absurd (not-suc-le-zero l)
  packet-lane one (u ∷ us) a o w e l =
      split (length u) o
      (λ h. past h (packet-lane one us (a + length u) (o - length u) w.1 (omega arith) (omega (arith, length-append u (joined us)))))
      (λ h. here o e h)
    where
      past : length u ≤ o
          → yield (packet_lane longest (held_from j carried (a + length u) (o - length u) us) (inside z (start_from us (o - length u) - (o - length u)))
          (zone_from (o - length u) us))
          ≡ yields (ends (a + length u) us) (held (a + length u) (o - length u + z) us)
          → yield (packet_lane longest (held_from j carried a o (u ∷ us)) (inside z (start_from (u ∷ us) o - o)) (zone_from o (u ∷ us)))
          ≡ yields (ends a (u ∷ us))
          (held a (o + z) (u ∷ us))
      past h ih =
          let s = w.0.some in
          let p : start_from (u ∷ us) o - o ≡ start_from us (o - length u) - (o - length u) = omega (arith, start-on u us o (omega arith)) in
          let d : drop o (u ++ joined us) ≡ drop (o - length u) (joined us) = ap (λ (i : ℕ). drop i (u ++ joined us)) (sym (add-sub_of_le h))
          ∙ drop-append-add u (joined us) (o - length u) in
          let n : o - length u + z ≡ o + z - length u = omega arith in
          ap₂ (λ (x : DataUnit) (q : Option ℕ). yield (packet_lane longest x q (zone_from o (u ∷ us)))) (held-past j carried a o u us h) (ap (inside z) p)
          ∙ ap (λ (xs : List ℕ).
          yield (packet_lane longest (held_from j carried (a + length u) (o - length u) us) (inside z (start_from us (o - length u) - (o - length u)))
          (take z xs ++ filler (z - length (take z xs))))) d
          ∙ ih
          ∙ ap (λ (i : ℕ). yields (ends (a + length u) us) (held (a + length u) i us)) n
          ∙ sym
          (ap₂ yields (first-before start (start + z) (λ (i : ℕ). j ≤? i) (spanned now) u us a (omega arith))
          (held-past j now a (o + z) u us (omega arith)))

      here : (o : ℕ) → a + o ≡ start → o < length u
          → yield (packet_lane longest (held_from j carried a o (u ∷ us)) (inside z (start_from (u ∷ us) o - o)) (zone_from o (u ∷ us)))
          ≡ yields (ends a (u ∷ us))
          (held a (o + z) (u ∷ us))
      here zero e h =
          ap₂ (λ (x : DataUnit) (n : ℕ). yield (packet_lane longest x (inside z n) (zone_from 0 (u ∷ us))))
          (held-here j carried a 0 u us h ∙ none_yet j carried a) (ap (λ (n : ℕ). n - 0) (start-zero (u ∷ us)))
          ∙ starts one u us a 0 w e refl
      here (suc o) e h =
          let p : start_from (u ∷ us) (suc o) - suc o ≡ length u - suc o = ap (λ (n : ℕ). n - suc o)
          (start-on u us (suc o) (omega arith) ∙ ap (λ (n : ℕ). length u + start_from us n) (sub-eq-zero_of_le (omega arith)) ∙ ap
          (λ (n : ℕ). length u + n) (start-zero us) ∙ add-zero (length u)) in
          ap₂ (λ (x : DataUnit) (n : ℕ). yield (packet_lane longest x (inside z n) (zone_from (suc o) (u ∷ us)))) (held-here j carried a (suc o) u us h) p
          ∙ began one u us a (suc o) w e (omega arith) h
