-- A frame's parts laid one after another.
use mathlib.Core.Path.{◌≡◌, sym, ap, ap₂, ◌∙◌}
use Prim.Native.Nat.{ℕ, ◌+◌, ◌-◌, ◌*◌, ◌≤◌}
use native.Mathlib.Omega.{arith}
use mathlib.Core.Bool.{Bool, cond}
use mathlib.Core.List.{List, [], ◌∷◌, ◌++◌, append_assoc}
use lib.ListN.{length, take, drop, replicate, length-append}
use lib.Seq.{take_at, length-take-le}
use Rattle.rules.specs.declared.Kind.{Kind}
use Rattle.rules.specs.declared.Channel.{Channel}
use Rattle.rules.specs.declared.Lane.{Lane}
use Rattle.rules.specs.declared.Setting.{Setting}
use Rattle.rules.specs.Octets.{be, field, packed, check_of}
use Rattle.rules.specs.Areas.{laid}
use Rattle.rules.specs.Frames.{header, primary, data_header, body, checked}
use Rattle.rules.specs.Writing.{fill, zone_of, rule_of, pointer_of}
use Rattle.rules.proofs.Octets.{length-be}
use Rattle.rules.proofs.Areas.{laid-front, laid-laid, laid_next}
use Rattle.rules.proofs.Written.{length-zone_of}
use Rattle.writer.specs.declared.frames.Upcoming.{Upcoming}
use Rattle.writer.specs.Fits.{upcoming_frame}

-- ---- the primary header and the insert zone

pub front-laid : (area : List ℕ) (s : Setting) (c : Channel) (l : Lane) (k : ℕ) (insert : List ℕ) → 7 + c.octets + length insert ≤ length area
    → laid (laid (laid area 0 (be 7 (packed (header s c l)))) 7 (be c.octets k)) (7 + c.octets) insert ≡ laid area 0 (primary s c l k ++ insert)
unfolding primary
front-laid area s c l k insert room =
    let a : length (be 7 (packed (header s c l))) ≡ 7 = length-be 7 (packed (header s c l)) in
    let b : length (be 7 (packed (header s c l)) ++ be c.octets k) ≡ 7 + c.octets =
    length-append (be 7 (packed (header s c l))) (be c.octets k) ∙ ap₂ ◌+◌ a (length-be c.octets k) in
    ap (λ (x : List ℕ). laid x (7 + c.octets) insert) (laid_next area (be 7 (packed (header s c l))) (be c.octets k) 7 (sym a) (omega arith))
    ∙ laid_next area (be 7 (packed (header s c l)) ++ be c.octets k) insert (7 + c.octets) (sym b) (omega arith)

-- ---- the OCF and the check

-- What stands before an octet once others were laid from an earlier one up to it.
pub before-end : (area : List ℕ) (from : ℕ) (ocf : List ℕ) → from + length ocf ≤ length area
    → take (from + length ocf) (laid area from ocf) ≡ take from area ++ ocf
unfolding laid
before-end area from ocf room =
    take_at (take from area ++ ocf) _ (from + length ocf)
    (length-append (take from area) ocf ∙ ap (λ (n : ℕ). n + length ocf) (length-take-le from area (omega arith)))

pub end-laid : (area : List ℕ) (from : ℕ) (ocf : List ℕ) → from + length ocf ≤ length area
    → laid (laid area from ocf) (from + length ocf) (be 2 (check_of (take (from + length ocf) (laid area from ocf))))
    ≡ laid area from (ocf ++ be 2 (check_of (take from area ++ ocf)))
end-laid area from ocf room =
    ap (λ (x : List ℕ). laid (laid area from ocf) (from + length ocf) (be 2 (check_of x))) (before-end area from ocf room)
    ∙ laid-laid area from ocf room (be 2 (check_of (take from area ++ ocf)))

-- ---- rule, UPID, pointer and zone

pub data_laid : (area : List ℕ) (from r u p n : ℕ) (k : Kind) (z : ℕ) (b : List ℕ) (i x : ℕ) (piece : List ℕ) → from + 3 + z ≤ length area
    → n ≡ packed (field 3 r ∷ field 5 u ∷ field 16 p ∷ []) → piece ≡ take z (drop (i * z) b) → x ≡ fill k
    → laid (laid area from (be 3 n)) (from + 3) (piece ++ replicate (z - length piece) x) ≡ laid area from (data_header r u p ++ zone_of k z b i)
unfolding data_header zone_of
data_laid area from r u p n k z b i x piece room e f g =
    let h : length (be 3 n) ≡ 3 = length-be 3 n in
    ap (λ (m : ℕ). laid (laid area from (be 3 n)) m (piece ++ replicate (z - length piece) x)) (ap (λ (m : ℕ). from + m) (sym h))
    ∙ laid-laid area from (be 3 n) (omega arith) (piece ++ replicate (z - length piece) x)
    ∙ ap₂ (λ (m : ℕ) (ys : List ℕ). laid area from (be 3 m ++ ys)) e (ap₂ (λ (q : List ℕ) (y : ℕ). q ++ replicate (z - length q) y) f g)

-- ---- the whole frame

pub frame-laid : (area a d ocf : List ℕ) (t : Bool) (from z : ℕ) → from ≡ length a → 3 + z ≡ length d → length a + length d ≤ length area
    → laid (laid (laid area 0 a) from d) (from + 3 + z)
    (ocf ++ cond t (be 2 (check_of (take (from + 3 + z) (laid (laid area 0 a) from d) ++ ocf))) [])
    ≡ laid area 0 (a ++ d ++ ocf ++ cond t (be 2 (check_of (a ++ d ++ ocf))) [])
frame-laid area a d ocf t from z e f room =
    let n : from + 3 + z ≡ length (a ++ d) = omega (arith, length-append a d) in
    let two : laid (laid area 0 a) from d ≡ laid area 0 (a ++ d) = laid_next area a d from e (omega arith) in
    let behind : take (from + 3 + z) (laid (laid area 0 a) from d) ≡ a ++ d = ap₂ take n two ∙ laid-front area (a ++ d) in
    ap₂ (λ (x y : List ℕ). laid x (from + 3 + z) (ocf ++ cond t (be 2 (check_of (y ++ ocf))) [])) two behind
    ∙ laid_next area (a ++ d) (ocf ++ cond t (be 2 (check_of (a ++ d ++ ocf))) []) (from + 3 + z) n (omega (arith, length-append a d))
    ∙ ap (laid area 0) (sym (append_assoc (a ++ d) ocf (cond t (be 2 (check_of (a ++ d ++ ocf))) [])))

pub frame_is : (s : Setting) (x : Upcoming) (b insert ocf : List ℕ)
    → upcoming_frame s x b insert ocf
    ≡ (let whole : List ℕ = (primary s x.channel x.lane x.count ++ insert)
    ++ (data_header (rule_of x.lane.kind x.number) x.lane.upid (pointer_of x.lane.kind x.zone b x.number) ++ zone_of x.lane.kind
    x.zone b x.number)
    ++ ocf in
    whole ++ cond s.check (be 2 (check_of whole)) [])
unfolding upcoming_frame checked body
frame_is s x b insert ocf =
    ap (λ (w : List ℕ). w ++ cond s.check (be 2 (check_of w)) [])
    (ap (λ (w : List ℕ). w ++ ocf)
    (append_assoc (primary s x.channel x.lane x.count ++ insert)
    (data_header (rule_of x.lane.kind x.number) x.lane.upid (pointer_of x.lane.kind x.zone b x.number))
    (zone_of x.lane.kind x.zone b x.number)))

pub primary-length : (s : Setting) (c : Channel) (l : Lane) (k : ℕ) (insert : List ℕ) → length (primary s c l k ++ insert) ≡ 7 + c.octets + length insert
unfolding primary
primary-length s c l k insert = simp (length-append, length-be)

pub data_length : (r u p : ℕ) (k : Kind) (z : ℕ) (b : List ℕ) (i : ℕ) → length (data_header r u p ++ zone_of k z b i) ≡ 3 + z
unfolding data_header
data_length r u p k z b i = simp (length-append, length-be, length-zone_of)
