-- A lane of either kind that reads a frame of its batch. From here on packets and access units are alike: units back to back.
use mathlib.Core.Path.{◌≡◌, refl, sym, ap, ap₂, ◌∙◌, subst}
use mathlib.Core.Logic.{inl, inr}
use Prim.Native.Nat.{ℕ, ◌+◌, ◌-◌, ◌*◌, ◌/◌, ◌≤◌, ◌<◌}
use native.Mathlib.Nat.{zero-add, zero-mul, mul-pos, le-div_iff_mul-le, div-lt_iff_lt-mul, lt-div-mul-add}
use native.Mathlib.Omega.{arith}
use mathlib.Core.Bool.{Bool, true, false, cond}
use mathlib.Core.List.{List, [], ◌∷◌, append-nil}
use lib.ListN.{length}
use borrow.Author.Tests.{leb-true, ltb-true, eq-eqb, ne_eqb}
use Rattle.rules.specs.declared.Kind.{Kind}
use Rattle.rules.specs.declared.Kind.TheVariants.{Packets, Access}
use Rattle.std.specs.Prelude.{Option, Some, None}
use Rattle.rules.specs.Tests.{◌≤?◌, ◌<?◌, ◌=?◌}
use Rattle.rules.specs.Areas.{joined}
use Rattle.rules.specs.Packets.{packets}
use Rattle.rules.specs.Frames.{pointer_to, points_to}
use Rattle.rules.specs.Writing.{batch_ok, units_of, frames, zone_of, rule_of, start_from, offset_of, inside, pointer_of, number_after}
use Rattle.rules.specs.Reading.{DataUnit, lane_step, packet_lane, access_lane}
use Rattle.rules.proofs.Tests.{same, all-at}
use Rattle.rules.specs.Valid.{least}
use Rattle.link.specs.Due.{ending}
use Rattle.link.proofs.Whole.{Batch, packet_batch}
use Rattle.link.proofs.Spans.{Filled, yields, yield, spanned, onward, held_from, Delivers, Follows}
use Rattle.link.proofs.PacketLane.{wholes-filled, packet-lane}
use Rattle.link.proofs.AccessLane.{access-lane}

-- ---- units of a batch

pub record Units (kind : Kind) (b : List ℕ) : Type 0 where
  pub filled : Filled (units_of kind b)
  pub joins : joined (units_of kind b) ≡ b

pub units : (kind : Kind) (longest : ℕ) (b : List ℕ) → batch_ok kind longest b ≡ true → Units kind b
units Packets longest b e =
    let p : Batch longest b = packet_batch longest b e in
    record { filled = wholes-filled longest (packets b) p.wholes; joins = p.joins }
units Access longest b e =
    unfold batch_ok joined in
    let h : 1 ≤ length b = leb-true _ _ (all-at _ 0 e) in
    record { filled = (h, tt); joins = append-nil b }

-- ---- frames of a batch

module _ (z : ℕ) (zp : 0 < z) (b : List ℕ) (k : ℕ) where
  pub frame-within : k < frames z b → k * z < length b
  unfolding frames
  frame-within h = let q = (le-div_iff_mul-le zp).0 h in omega (arith, q)

  pub frame-last : k + 1 ≡ frames z b → length b ≤ k * z + z
  unfolding frames
  frame-last h =
      let q : (length b + (z - 1)) / z < k + 2 = omega (arith, h) in
      let r = (div-lt_iff_lt-mul zp).0 q in
      omega (arith, r)

-- The frames hold the whole batch.
pub frame-all : (z : ℕ) → 0 < z → (b : List ℕ) → length b ≤ frames z b * z
unfolding frames
frame-all z zp b =
    let q = lt-div-mul-add {a = length b + (z - 1)} zp in
    omega (arith, q)

-- ---- a pointer is read as it was written

points_back : (z n : ℕ) → z ≤ 4096 → points_to (pointer_to (inside z n)) ≡ inside z n
unfolding points_to inside
points_back z n h = go (n <? z) refl
  where
    go : (t : Bool) → n <? z ≡ t → cond (pointer_to (cond t (Some n) None) =? 0xFFFF) None (Some (pointer_to (cond t (Some n) None))) ≡ cond t (Some n) None
    go true e = let l : n < z = ltb-true _ _ e in rw (ne_eqb n 0xFFFF (λ q. omega arith))
    go false e = refl

-- ---- a frame

module _ (longest z : ℕ) (zp : 0 < z) (zl : z ≤ 4096) (k : ℕ) (b : List ℕ) where
  -- A unit begins with the frame that starts with octet 0.
  starts-unit : (k * z =? 0) ≡ (rule_of Access k =? 0b001)
  unfolding rule_of
  starts-unit = same k 0 (λ e. rw (eq-eqb k 0 e, eq-eqb (k * z) 0 (ap (λ (i : ℕ). i * z) e ∙ zero-mul z)))
      (λ e. let p : 0 < k * z = mul-pos (omega arith) zp in rw (ne_eqb k 0 e, ne_eqb (k * z) 0 (λ q. omega arith)))

  -- Frame k of a batch, as either kind of lane reads it.
  pub lane-reads : (kind : Kind) (h : DataUnit) → least kind ≤ longest → batch_ok kind longest b ≡ true → k < frames z b
      → Delivers (units_of kind b) (k * z) (k * z + z) h
      (yield (lane_step kind longest (rule_of kind k) h (points_to (pointer_of kind z b k)) (zone_of kind z b k)))
  unfolding lane_step pointer_of offset_of zone_of
  lane-reads Packets h enough ok f j n js e =
      let p : Batch longest b = packet_batch longest b ok in
      let l : k * z < length (joined (packets b)) = rw p.joins (frame-within z zp b k f) in
      ap₂ (λ (x : DataUnit) (q : Option ℕ). yield (packet_lane longest x q (zone_of Packets z b k))) e
      (points_back z (start_from (packets b) (k * z) - k * z) zl)
      ∙ subst
      (λ (x : List ℕ).
      yield (packet_lane longest (held_from j n 0 (k * z) (packets b)) (inside z (start_from (packets b) (k * z) - k * z)) (zone_of Packets z x k))
      ≡ yields (ending (k * z) (k * z + z) (λ (i : ℕ). j ≤? i) (spanned (onward (k * z) n)) 0 (packets b))
      (held_from j (onward (k * z) n) 0 (k * z + z) (packets b)))
      p.joins
      (packet-lane longest z zp j n (k * z) js (omega arith) (packets b) 0 (k * z) p.wholes (zero-add (k * z)) l)
  lane-reads Access h enough ok f j n js e =
      unfold batch_ok in
      ap₂ (λ (x : DataUnit) (q : Option ℕ). yield (access_lane longest (rule_of Access k =? 0b001) x q (zone_of Access z b k))) e
      (points_back z (length b - 1 - k * z) zl)
      ∙ ap (λ (t : Bool). yield (access_lane longest t (held_from j n 0 (k * z) (b ∷ [])) (inside z (length b - 1 - k * z)) (zone_of Access z b k)))
      (sym starts-unit)
      ∙ access-lane longest z zp j n (k * z) js b (leb-true _ _ (all-at _ 1 ok)) (frame-within z zp b k f)

-- ---- the frame after it

pub follows : (kind : Kind) (longest z k : ℕ) → 0 < z → (b : List ℕ) → batch_ok kind longest b ≡ true
    → Follows (units_of kind b) (k * z + z) (number_after k (frames z b) * z)
unfolding number_after
follows kind longest z k zp b ok =
    same (k + 1) (frames z b)
    (λ e. inr (rw (eq-eqb (k + 1) (frames z b) e) (zero-mul z), rw (units kind longest b ok).joins (frame-last z zp b k e)))
    (λ e. inl (rw (ne_eqb (k + 1) (frames z b) e) (omega arith)))
