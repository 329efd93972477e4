-- Laws of the measure: what it can say, of the octets behind a header, of a packet's first octets, of no octets and of fill, and that eight octets say
-- all. A packet's first octet says how many its header has; what the others say of it stands on these laws.
use mathlib.Core.Path.{◌≡◌, refl, sym, ap, ◌∙◌}
use mathlib.Core.Logic.{◌⊎◌, inl, inr}
use Prim.Native.Nat.{ℕ, zero, suc, ◌+◌, ◌-◌, ◌*◌, ◌%◌, ◌≤◌, ◌<◌}
use native.Mathlib.Nat.{not-suc-le-zero, le_trans}
use native.Mathlib.Omega.{arith}
use mathlib.Core.Bool.{Bool, true, false, cond, true≢false}
use mathlib.Core.List.{List, [], ◌∷◌, ◌++◌, append-nil}
use lib.ListN.{length, get_or, take, drop, length-append, length-drop, take-append-drop, get_or-append}
use lib.Seq.{length-take-le, take_all, take-append-le, drop-append-le, get_or-take}
use borrow.Author.Tests.{ltb-true, ltb-false, lt-ltb, le-ltb}
use Rattle.rules.specs.declared.Family.{Family}
use Rattle.rules.specs.declared.Family.TheVariants.{Space, Encapsulation}
use Rattle.rules.specs.declared.Measure.{Measure}
use Rattle.rules.specs.declared.Measure.TheVariants.{Lacks, Packet, Idle, Unreadable}
use Rattle.rules.specs.Tests.{◌<?◌, ◌=?◌}
use Rattle.rules.specs.Octets.{num}
use Rattle.rules.specs.Packets.{first_bits, protocol, length_of_length, space_header, sized, space_packet, header_size, length_size, total_in, totalled, alone, encapsulated, headed, measured, measure}
use Rattle.rules.proofs.Tests.{split}

-- ---- the printed tables: to show something of each entry, show it of the four

pub entries : (P : ℕ → ℕ → ℕ → Type 0) (l : ℕ) → l < 4 → P 0 1 0 → P 1 2 1 → P 2 4 2 → P 3 8 4 → P l (header_size l) (length_size l)
entries P zero h a b c d = a
entries P (suc zero) h a b c d = b
entries P (suc (suc zero)) h a b c d = c
entries P (suc (suc (suc zero))) h a b c d = d
entries P (suc (suc (suc (suc l)))) h a b c d = absurd (omega arith)

-- The length stands within its header, which has eight octets at most.
pub record Fits (header size : ℕ) : Type 0 where
  pub within : size ≤ header
  pub some : 1 ≤ header
  pub most : header ≤ 8

pub entry_fits : (l : ℕ) → l < 4 → Fits (header_size l) (length_size l)
entry_fits l h =
    entries (λ l k m. Fits k m) l h (record { within = omega arith; some = omega arith; most = omega arith })
    (record { within = omega arith; some = omega arith; most = omega arith })
    (record { within = omega arith; some = omega arith; most = omega arith })
    (record { within = omega arith; some = omega arith; most = omega arith })

-- ---- the header, by the first octet

-- How many octets it has; of a packet that is unreadable by its first octet, that one.
unfoldable pub header_of : ℕ → ℕ
header_of a = cond (first_bits a =? 0b000) space_header (cond (first_bits a =? 0b111) (header_size (length_of_length a)) 1)

-- What it says, all of it.
unfoldable said : ℕ → List ℕ → Measure
said a xs = cond (first_bits a =? 0b000) (space_packet xs) (cond (first_bits a =? 0b111) (encapsulated a xs) Unreadable)

pub header_fits : (a : ℕ) → (1 ≤ header_of a) × (header_of a ≤ 8)
unfolding header_of
header_fits a = go (first_bits a =? 0b000) (first_bits a =? 0b111)
  where
    l : ℕ
    l = length_of_length a

    go : (p q : Bool) → (1 ≤ cond p space_header (cond q (header_size l) 1)) × (cond p space_header (cond q (header_size l) 1) ≤ 8)
    go true q = (omega arith, omega arith)
    go false true = let f = entry_fits l (omega arith) in (f.some, f.most)
    go false false = (omega arith, omega arith)

measure-by : (a : ℕ) (xs : List ℕ) → measure (a ∷ xs) ≡ headed (header_of a) (suc (length xs)) (said a (a ∷ xs))
unfolding measure measured header_of said headed
measure-by a xs = go (first_bits a =? 0b000) (first_bits a =? 0b111)
  where
    n : ℕ
    n = suc (length xs)

    go : (p q : Bool)
        → cond p (headed space_header n (space_packet (a ∷ xs))) (cond q (headed (header_size (length_of_length a)) n (encapsulated a (a ∷ xs))) Unreadable)
        ≡ headed (cond p space_header (cond q (header_size (length_of_length a)) 1)) n
        (cond p (space_packet (a ∷ xs)) (cond q (encapsulated a (a ∷ xs)) Unreadable))
    go true q = refl
    go false true = refl
    go false false = rw (le-ltb n 1 (omega arith))

-- ---- cases

-- What a header can say. A packet has all of its header, and two octets at least.
said-cases : (P : Measure → Type 0) (a : ℕ) (xs : List ℕ) → ((f : Family) (n : ℕ) → header_of a ≤ n → 2 ≤ n → P (Packet f n))
    → ((n : ℕ) → 1 ≤ n → P (Idle n)) → P Unreadable → P (said a xs)
unfolding header_of said space_packet sized encapsulated totalled alone
said-cases P a xs packet idle bad =
    go (first_bits a =? 0b000) (first_bits a =? 0b111) packet
  where
    space : ((f : Family) (n : ℕ) → space_header ≤ n → 2 ≤ n → P (Packet f n)) → (s : Bool) (n : ℕ) → P (cond s (Idle (7 + n)) (Packet Space (7 + n)))
    space give true n = idle (7 + n) (omega arith)
    space give false n = give Space (7 + n) (omega arith) (omega arith)

    l : ℕ
    l = length_of_length a

    short : (p : Bool) → P (cond p (Idle 1) Unreadable)
    short true = idle 1 (omega arith)
    short false = bad

    long : ((f : Family) (n : ℕ) → header_size l ≤ n → 2 ≤ n → P (Packet f n)) → 2 ≤ header_size l → (t : ℕ) (q : Bool) → t <? header_size l ≡ q → (p : Bool)
        → P (cond q Unreadable (cond p (Idle t) (Packet Encapsulation t)))
    long give h t true e p = bad
    long give h t false e true = let g : header_size l ≤ t = ltb-false _ _ e in idle t (omega arith)
    long give h t false e false = let g : header_size l ≤ t = ltb-false _ _ e in give Encapsulation t g (omega arith)

    two : (l =? 0 ≡ false) → 2 ≤ header_size l
    two e =
        entries (λ l k m. l =? 0 ≡ false → 2 ≤ k) l (omega arith) (λ e. absurd (true≢false e)) (λ e. omega arith) (λ e. omega arith) (λ e. omega arith) e

    capsule : ((f : Family) (n : ℕ) → header_size l ≤ n → 2 ≤ n → P (Packet f n)) → (z : Bool) → l =? 0 ≡ z
        → P (cond z (cond (protocol a =? 0b000) (Idle 1) Unreadable)
        (cond (total_in l xs <? header_size l) Unreadable (cond (protocol a =? 0b000) (Idle (total_in l xs)) (Packet Encapsulation (total_in l xs)))))
    capsule give true e = short (protocol a =? 0b000)
    capsule give false e = long give (two e) (total_in l xs) (total_in l xs <? header_size l) refl (protocol a =? 0b000)

    go : (p q : Bool) → ((f : Family) (n : ℕ) → cond p space_header (cond q (header_size l) 1) ≤ n → 2 ≤ n → P (Packet f n))
        → P (cond p (space_packet xs) (cond q (encapsulated a xs) Unreadable))
    go true q give = space give ((get_or xs 0 0 * 256 + get_or xs 1 0) % 2048 =? 2047) (get_or xs 4 0 * 256 + get_or xs 5 0)
    go false true give = capsule give (l =? 0) refl
    go false false give = bad

-- What the front of some octets can be: octets of its header are lacking, or all of it is there.
first-cases : (P : Measure → Type 0) (a : ℕ) (xs : List ℕ)
    → (suc (length xs) < header_of a → P (Lacks (header_of a - suc (length xs))))
    → (header_of a ≤ suc (length xs) → (f : Family) (n : ℕ) → header_of a ≤ n → 2 ≤ n → P (Packet f n))
    → ((n : ℕ) → 1 ≤ n → P (Idle n)) → P Unreadable → P (measure (a ∷ xs))
unfolding headed
first-cases P a xs lacks packet idle bad = rw (measure-by a xs) (go (suc (length xs) <? header_of a) refl)
  where
    go : (t : Bool) → suc (length xs) <? header_of a ≡ t → P (cond t (Lacks (header_of a - suc (length xs))) (said a (a ∷ xs)))
    go true e = lacks (ltb-true _ _ e)
    go false e = said-cases P a (a ∷ xs) (packet (ltb-false _ _ e)) idle bad

pub measure-none : measure [] ≡ Lacks 1
unfolding measure
measure-none = refl

pub measure-empty : (xs : List ℕ) → length xs ≡ 0 → measure xs ≡ Lacks 1
measure-empty [] e = measure-none
measure-empty (a ∷ xs) e = absurd (omega arith)

-- By the first octet, where there is one.
pub measure-first : (xs : List ℕ) → 0 < length xs → measure xs ≡ measured (get_or xs 0 0) xs
unfolding measure
measure-first [] h = absurd (not-suc-le-zero h)
measure-first (a ∷ xs) h = refl

pub measure-cases : (P : Measure → Type 0) (xs : List ℕ) → ((k : ℕ) → P (Lacks k)) → ((f : Family) (n : ℕ) → 2 ≤ n → P (Packet f n))
    → ((n : ℕ) → 1 ≤ n → P (Idle n)) → P Unreadable → P (measure xs)
unfolding measure
measure-cases P [] lacks packet idle bad = lacks 1
measure-cases P (a ∷ xs) lacks packet idle bad = first-cases P a xs (λ h. lacks _) (λ h f n k l. packet f n l) idle bad

-- The single octet E0 is an idle packet, whatever follows it.
pub measure-fill : (xs : List ℕ) → measure (0xE0 ∷ xs) ≡ Idle 1
unfolding measure measured headed encapsulated alone
measure-fill xs = rw (le-ltb (suc (length xs)) 1 (omega arith))

-- ---- what stands behind a header

-- Octets j to j + k are those of the front, where it has them.
window : (j k : ℕ) (xs ys : List ℕ) → j + k ≤ length xs → take k (drop j (xs ++ ys)) ≡ take k (drop j xs)
window j k xs ys h =
    ap (take k) (drop-append-le j xs ys (omega arith)) ∙ take-append-le k (drop j xs) ys (rw (length-drop j xs) (omega arith))

said-behind : (a : ℕ) (xs ys : List ℕ) → header_of a ≤ length xs → said a (xs ++ ys) ≡ said a xs
unfolding header_of said space_packet encapsulated total_in
said-behind a xs ys = go (first_bits a =? 0b000) (first_bits a =? 0b111)
  where
    l : ℕ
    l = length_of_length a

    at : (i : ℕ) → i < length xs → get_or (xs ++ ys) i 0 ≡ get_or xs i 0
    at i h = get_or-append xs ys 0 i h

    go : (p q : Bool) → cond p space_header (cond q (header_size l) 1) ≤ length xs
        → cond p (space_packet (xs ++ ys)) (cond q (encapsulated a (xs ++ ys)) Unreadable) ≡ cond p (space_packet xs) (cond q (encapsulated a xs) Unreadable)
    go true q h = rw (at 0 (omega arith), at 1 (omega arith), at 4 (omega arith), at 5 (omega arith))
    go false true h =
        let f = entry_fits l (omega arith) in
        ap (λ (zs : List ℕ). cond (l =? 0) (alone (protocol a)) (totalled (protocol a) (header_size l) (num zs)))
        (window (header_size l - length_size l) (length_size l) xs ys (omega (arith, f.within)))
    go false false h = refl

-- Octets behind a header do not change what it says.
pub measure-behind : (xs ys : List ℕ) → header_of (get_or xs 0 0) ≤ length xs → measure (xs ++ ys) ≡ measure xs
unfolding headed
measure-behind [] ys h = absurd (not-suc-le-zero (le_trans (header_fits 0).0 h))
measure-behind (a ∷ xs) ys h =
    measure-by a (xs ++ ys)
    ∙ rw (le-ltb _ _ long, said-behind a (a ∷ xs) ys h)
    (sym (measure-by a xs ∙ rw (le-ltb _ _ h)))
  where
    long : header_of a ≤ suc (length (xs ++ ys))
    long = omega (arith, length-append xs ys, h)

-- Eight octets say all.
pub measure-eight : (xs ys : List ℕ) → 8 ≤ length xs → measure (xs ++ ys) ≡ measure xs
measure-eight xs ys h = measure-behind xs ys (omega (arith, (header_fits (get_or xs 0 0)).1))

pub measure-take : (g : ℕ) (xs : List ℕ) → 8 ≤ g → measure (take g xs) ≡ measure xs
measure-take g xs h =
    split (length xs) g (λ k. ap measure (take_all g xs k))
    (λ k.
    sym (measure-eight (take g xs) (drop g xs) (omega (arith, length-take-le g xs (omega arith)))) ∙ ap measure (take-append-drop g xs))

-- ---- a packet that is not idle

-- What `Packet f n` says of the octets measured: their header is there, and it is part of the packet.
pub record Begins (n : ℕ) (xs : List ℕ) : Type 0 where
  pub there : header_of (get_or xs 0 0) ≤ length xs
  pub header : header_of (get_or xs 0 0) ≤ n
  pub two : 2 ≤ n

pub begins : (xs : List ℕ) (f : Family) (n : ℕ) → measure xs ≡ Packet f n → Begins n xs
unfolding measure
begins [] f n e = let z : ◌≡◌ {A = ℕ} 0 1 = cc in absurd (omega arith)
begins (a ∷ xs) f n e =
    first-cases (λ (m : Measure). m ≡ Packet f n → Begins n (a ∷ xs)) a xs (λ l e. let z : ◌≡◌ {A = ℕ} 0 1 = cc in absurd (omega arith))
    (λ h g k l t e. let q : k ≡ n = cc in record { there = h; header = omega arith; two = omega arith })
    (λ k l e. let z : ◌≡◌ {A = ℕ} 0 1 = cc in absurd (omega arith)) (λ e. let z : ◌≡◌ {A = ℕ} 0 1 = cc in absurd (omega arith)) e

pub packet-long : (xs : List ℕ) (f : Family) (n : ℕ) → measure xs ≡ Packet f n → 2 ≤ n
packet-long xs f n e = (begins xs f n e).two

-- Its first octets with anything behind them, where its header is among them.
pub packet-front : (xs : List ℕ) (f : Family) (n : ℕ) → measure xs ≡ Packet f n → (m : ℕ) → header_of (get_or xs 0 0) ≤ m → m ≤ length xs → (ys : List ℕ)
    → measure (take m xs ++ ys) ≡ Packet f n
packet-front xs f n e m h k ys =
    let l : length (take m xs) ≡ m = length-take-le m xs k in
    let o : get_or (take m xs) 0 0 ≡ get_or xs 0 0 = get_or-take m xs 0 0 (omega (arith, (header_fits (get_or xs 0 0)).0)) in
    let b : header_of (get_or (take m xs) 0 0) ≤ length (take m xs) = rw (o, l) h in
    measure-behind (take m xs) ys b ∙ sym (measure-behind (take m xs) (drop m xs) b) ∙ ap measure (take-append-drop m xs) ∙ e

-- Octets of which a header still lacks some.
pub record Lacking (m : Measure) : Type 0 where
  pub by : ℕ
  pub is : m ≡ Lacks by

-- Where octets of its header are not among them, these are lacking.
pub packet-few : (xs : List ℕ) (m : ℕ) → m < header_of (get_or xs 0 0) → m ≤ length xs → Lacking (measure (take m xs))
unfolding headed
packet-few xs zero h k = record { by = 1; is = measure-none }
packet-few [] (suc m) h k = absurd (not-suc-le-zero k)
packet-few (a ∷ xs) (suc m) h k =
    let l : length (take m xs) ≡ m = length-take-le m xs (omega arith) in
    record { by = header_of a - suc m; is = measure-by a (take m xs) ∙ rw (l, lt-ltb (suc m) (header_of a) h) }

-- So the first octets of a packet say that some are lacking, or its size.
pub packet-part : (xs : List ℕ) (f : Family) (n : ℕ) → measure xs ≡ Packet f n → (m : ℕ) → m ≤ length xs
    → Lacking (measure (take m xs)) ⊎ (measure (take m xs) ≡ Packet f n)
packet-part xs f n e m k =
    split (header_of (get_or xs 0 0)) m
    (λ h. inr (ap measure (sym (append-nil (take m xs))) ∙ packet-front xs f n e m h k []))
    (λ h. inl (packet-few xs m h k))
