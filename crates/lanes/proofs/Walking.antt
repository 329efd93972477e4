-- The walk over a zone: at each place what it makes of the rest is what it makes of the packet there, and then of the octets after it.
use mathlib.Core.Path.{◌≡◌, refl, sym, ap, ap₂, ◌∙◌}
use mathlib.Core.List.{List, [], ◌∷◌}
use Prim.Native.Nat.{ℕ, zero, suc, ◌+◌, ◌-◌, ◌≤◌, ◌<◌}
use native.Mathlib.Nat.{not-suc-le-zero}
use native.Mathlib.Omega.{arith}
use lib.ListN.{length, get_or, take, drop, length-drop}
use lib.Seq.{take_all, drop-cons, drop-drop}
use borrow.Author.Tests.{le-leb}
use Rattle.rules.specs.declared.Next.{Next}
use Rattle.rules.specs.declared.Next.TheVariants.{Give, Skip, Keep, Lose}
use Rattle.rules.specs.declared.Info.{Info}
use Rattle.rules.specs.Packets.{measure}
use Rattle.rules.specs.Reading.{unit_of, Made, nothing, holds, drops, hands, idles, both, sized_next, next_of, front, walk_up_to, walk}
use Rattle.rules.proofs.Measures.{measure-fill}
use Rattle.rules.proofs.Lanes.{next-cases, walk-front}
use Rattle.lanes.specs.declared.units.Tally.{Tally}
use Rattle.lanes.specs.Hands.{Room, Handed, Begun}
use Rattle.lanes.specs.Ends.{Run}
use Rattle.lanes.proofs.Hands.{hands-both, idles-none, idles-idles, idles-both, room-first, begun-none, begun_is, begun-on, begun-room}

-- The rest of a zone, as it is lent.
pub rest-lent : (z : List ℕ) (at : ℕ) → take (length z - at) (drop at z) ≡ drop at z
rest-lent z at = take_all (length z - at) (drop at z) (rw length-drop (omega arith))

-- Of no octets nothing is made.
walk_none : (longest : ℕ) (xs : List ℕ) → length xs ≤ 0 → walk longest xs ≡ nothing
unfolding walk walk_up_to
walk_none longest [] h = refl
walk_none longest (x ∷ xs) h = absurd (not-suc-le-zero h)

-- Each octet of a run is an idle packet of one octet.
idle_one : (longest : ℕ) (z : List ℕ) (at : ℕ) → 1 ≤ longest → at < length z → get_or z at 0 ≡ 0xE0
    → walk longest (drop at z) ≡ idles 1 (walk longest (drop (at + 1) z))
unfolding next_of sized_next
idle_one longest z at some h e =
    let x : drop at z ≡ 0xE0 ∷ drop (suc at) z = drop-cons z at 0 h ∙ ap (λ (o : ℕ). o ∷ drop (suc at) z) e in
    let k : suc at ≡ at + 1 = omega arith in
    let n : 1 ≤ length (0xE0 ∷ drop (suc at) z) = omega arith in
    walk-front longest (drop at z)
    ∙ rw (x, measure-fill (drop (suc at) z), le-leb 1 longest some, le-leb 1 (length (0xE0 ∷ drop (suc at) z)) n)
    (ap (λ (i : ℕ). idles 1 (walk longest (drop i z))) k)

idle_run : (longest : ℕ) (z : List ℕ) (n at : ℕ) → 1 ≤ longest → at + n ≤ length z → ((i : ℕ) → at ≤ i → i < at + n → get_or z i 0 ≡ 0xE0)
    → walk longest (drop at z) ≡ idles n (walk longest (drop (at + n) z))
idle_run longest z zero at some h each = let k : at ≡ at + 0 = omega arith in ap (λ (i : ℕ). walk longest (drop i z)) k ∙ idles-none _
idle_run longest z (suc n) at some h each =
    let k : at + 1 + n ≡ at + suc n = omega arith in
    let m : 1 + n ≡ suc n = omega arith in
    idle_one longest z at some (omega arith) (each at (omega arith) (omega arith))
    ∙ ap (idles 1) (idle_run longest z n (at + 1) some (omega arith) (λ i a b. each i (omega arith) (omega arith)))
    ∙ idles-idles 1 n (walk longest (drop (at + 1 + n) z))
    ∙ ap₂ (λ (i j : ℕ). idles i (walk longest (drop j z))) m k

-- ---- the invariant: what was handed out so far, and then a walk from octet `at` on, is the whole walk

pub record Walking (longest : ℕ) (z : List ℕ) (from : ℕ) (i : Info) (t : Tally) (u r : List ℕ) (at : ℕ) (t₁ : Tally) (u₁ r₁ : List ℕ) : Type 0 where
  pub inside : at ≤ length z
  pub begun : Begun i t u r (walk longest (drop from z)) (walk longest (drop at z)) t₁ u₁ r₁

pub starts : {longest : ℕ} {z : List ℕ} {from : ℕ} {i : Info} {t : Tally} {u r : List ℕ} → from ≤ length z → Walking longest z from i t u r from t u r
starts {longest} {z} {from} h = record { inside = h; begun = begun-none (walk longest (drop from z)) }

-- A turn passes n octets, of which `made` is made.
pub record Turn (longest : ℕ) (z : List ℕ) (at n : ℕ) (made : Made) : Type 0 where
  pub some : 1 ≤ n
  pub inside : n ≤ length z - at
  pub split : walk longest (drop at z) ≡ both made (walk longest (drop (at + n) z))

-- A packet that a turn passes has some of n octets.
abbrev Passed : ℕ → ℕ → Next → Type 0
Passed longest n (Give k) = (1 ≤ k) × (k ≤ n)
Passed longest n (Skip k) = (1 ≤ k) × (k ≤ n) × (k ≤ longest)
Passed longest n Keep = Unit {0}
Passed longest n Lose = Unit {0}

module _ {longest : ℕ} {z : List ℕ} {from : ℕ} {i : Info} {t : Tally} {u r : List ℕ} {at : ℕ} {t₁ : Tally} {u₁ r₁ : List ℕ}
    (w : Walking longest z from i t u r at t₁ u₁ r₁) where
  -- At the zone's end nothing is left.
  pub finished : length z ≤ at → Begun i t u r (walk longest (drop from z)) nothing t₁ u₁ r₁
  finished h = begun_is (walk_none longest (drop at z) (rw length-drop (omega arith))) w.begun

  -- Else it goes by what becomes of the packet there.
  module _ {s : Next} (is : s ≡ next_of longest (measure (take (length z - at) (drop at z))) (length (take (length z - at) (drop at z)))) where
    next-is : s ≡ next_of longest (measure (drop at z)) (length (drop at z))
    next-is = rw (rest-lent z at) at is

    here : walk longest (drop at z) ≡ front s (drop at z) (walk longest)
    here = walk-front longest (drop at z) ∙ ap (λ (n : Next). front n (drop at z) (walk longest)) (sym next-is)

    passed : Passed longest (length z - at) s
    passed =
        rw (next-is, ← length-drop at z)
        (next-cases (Passed longest (length (drop at z))) longest (drop at z) (λ n a b c. (omega arith, b)) (λ n a b c. (a, b, c)) (λ h. tt) tt)

    -- A packet is lent from where it starts to where it ends.
    pub given : {n : ℕ} → s ≡ Give n → Turn longest z at n (hands (unit_of (take (at + n - at) (drop at z))) nothing)
    given {n} e =
        let q : Passed longest (length z - at) (Give n) = rw e at passed in
        let k : n ≡ at + n - at = omega arith in
        record {
          some = q.0;
          inside = q.1;
          split =
              rw e at here ∙ hands-both (unit_of (take n (drop at z))) (walk longest (drop n (drop at z)))
              ∙ ap₂ (λ (i : ℕ) (xs : List ℕ). both (hands (unit_of (take i (drop at z))) nothing) (walk longest xs)) k (drop-drop n at z);
        }

    -- An idle packet, and the run of E0 octets after it.
    pub some-left-out : {n : ℕ} → s ≡ Skip n → (1 ≤ n) × (at + n ≤ length z)
    some-left-out {n} e = let q : Passed longest (length z - at) (Skip n) = rw e at passed in (q.0, omega (arith, q.1))

    pub skipped : {n to : ℕ} → s ≡ Skip n → Run z (at + n) to → Turn longest z at (to - at) (idles (to - at) nothing)
    skipped {n} {to} e r =
        let q : Passed longest (length z - at) (Skip n) = rw e at passed in
        let m : at + n + (to - (at + n)) ≡ at + (to - at) = omega (arith, r.begins) in
        let k : n + (to - (at + n)) ≡ to - at = omega (arith, r.begins) in
        record {
          some = omega (arith, q.0, r.begins);
          inside = omega (arith, r.inside);
          split =
              rw e at here
              ∙ ap (λ (xs : List ℕ). idles n (walk longest xs)) (drop-drop n at z)
              ∙ ap (idles n)
              (idle_run longest z (to - (at + n)) (at + n) (omega (arith, q.0, q.2)) (omega (arith, r.begins, r.inside))
              (λ i a b. r.each i a (omega (arith, r.begins))))
              ∙ idles-idles n (to - (at + n)) (walk longest (drop (at + n + (to - (at + n))) z))
              ∙ ap₂ (λ (i j : ℕ). idles i (walk longest (drop j z))) k m
              ∙ idles-both (to - at) _;
        }

    -- What is left is held, or dropped.
    pub kept : s ≡ Keep → Begun i t u r (walk longest (drop from z)) (holds (unit_of (drop at z))) t₁ u₁ r₁
    kept e = begun_is (rw e at here) w.begun

    pub lost : s ≡ Lose → Begun i t u r (walk longest (drop from z)) (drops (length (drop at z))) t₁ u₁ r₁
    lost e = begun_is (rw e at here) w.begun

  -- A turn has room, and keeps the invariant.
  module _ (room : Room t u r (walk longest (drop from z))) {n : ℕ} {a : Made} (turn : Turn longest z at n a) where
    pub turn-room : Room t₁ u₁ r₁ a
    turn-room = room-first a (walk longest (drop (at + n) z)) (rw turn.split at (begun-room room w.begun))

    pub turn_on : {t₂ : Tally} {u₂ r₂ : List ℕ} → Handed i t₁ u₁ r₁ a t₂ u₂ r₂ → Walking longest z from i t u r (at + n) t₂ u₂ r₂
    turn_on next = record { inside = omega arith; begun = begun-on room w.begun turn.split next }

    pub turn-to : {to : ℕ} → at + n ≡ to → {t₂ : Tally} {u₂ r₂ : List ℕ} → Handed i t₁ u₁ r₁ a t₂ u₂ r₂ → Walking longest z from i t u r to t₂ u₂ r₂
    turn-to e next = rw e at (turn_on next)
