-- The measure agrees with the printed tables, for every octet string: a packet laid out as the page has it, part by part, with anything behind it, is
-- measured as the page says; and so is one of which only first octets are there. Every first octet is one of these three kinds.
use mathlib.Core.Path.{◌≡◌, refl, ap, ◌∙◌}
use Prim.Native.Nat.{ℕ, suc, ◌+◌, ◌-◌, ◌*◌, ◌%◌, ◌≤◌, ◌<◌}
use native.Mathlib.Omega.{arith}
use mathlib.Core.Bool.{cond}
use mathlib.Core.List.{List, ◌∷◌, ◌++◌}
use lib.ListN.{length, take, drop, length-append}
use lib.Seq.{take_at, drop_at}
use borrow.Author.Tests.{lt-ltb, le-ltb, eq-eqb, ne_eqb}
use Rattle.rules.specs.declared.Family.TheVariants.{Space}
use Rattle.rules.specs.declared.Measure.TheVariants.{Lacks, Packet, Idle, Unreadable}
use Rattle.rules.specs.Tests.{◌=?◌}
use Rattle.rules.specs.Octets.{num}
use Rattle.rules.specs.Packets.{first_bits, protocol, length_of_length, space_header, sized, space_packet, header_size, length_size, total_in, totalled, alone, encapsulated, headed, measured, measure}

-- ---- "first bits 111, protocol 3 bits, length-of-length 2 bits"

module _ (p l : ℕ) (ph : p < 8) (lh : l < 4) where
  abbrev first : ℕ
  first = 0b111 * 32 + (p * 4 + l)

  bits_are : (first_bits first ≡ 0b111) × (protocol first ≡ p) × (length_of_length first ≡ l)
  bits_are = (omega arith, omega arith, omega arith)

  by-page : (xs : List ℕ) → measure (first ∷ xs) ≡ headed (header_size l) (suc (length xs)) (encapsulated first (first ∷ xs))
  unfolding measure measured
  by-page xs =
      let b = bits_are in
      rw (ne_eqb (first_bits first) 0 (λ e. omega arith), eq-eqb (first_bits first) 0b111 b.0)
      (ap (λ (k : ℕ). headed (header_size k) (suc (length xs)) (encapsulated first (first ∷ xs))) b.2)

  -- With fewer octets than its header has: so many are lacking.
  pub page-lacks : (xs : List ℕ) → suc (length xs) < header_size l → measure (first ∷ xs) ≡ Lacks (header_size l - suc (length xs))
  unfolding headed
  page-lacks xs h = by-page xs ∙ rw (lt-ltb _ _ h)

  -- The first octet, octets that are not judged, the total length, anything.
  module _ (between field behind : List ℕ) (last : suc (length between) + length field ≡ header_size l) (size : length field ≡ length_size l) where
    abbrev octets : List ℕ
    octets = first ∷ (between ++ (field ++ behind))

    field_is : take (length_size l) (drop (header_size l - length_size l) octets) ≡ field
    field_is =
        let n : header_size l - length_size l ≡ suc (length between) = omega arith in
        ap (λ (k : ℕ). take (length_size l) (drop k octets)) n
        ∙ ap (take (length_size l)) (drop_at between (field ++ behind) (length between) refl) ∙ take_at field behind (length_size l) size

    -- A total says how long the packet is, and the protocol whether it is idle.
    pub page-totalled : (l ≡ 0 → ⊥) → measure octets ≡ totalled p (header_size l) (num field)
    unfolding headed encapsulated total_in
    page-totalled some =
        let n : header_size l ≤ suc (length (between ++ (field ++ behind))) = omega
        (arith, length-append between (field ++ behind), length-append field behind) in
        let b = bits_are in
        by-page (between ++ (field ++ behind))
        ∙ rw (le-ltb _ _ n, b.2, b.1, ne_eqb l 0 some) (ap (λ (xs : List ℕ). totalled p (header_size l) (num xs)) field_is)

  -- A header of one octet has no total.
  pub page-alone : l ≡ 0 → (xs : List ℕ) → measure (first ∷ xs) ≡ alone p
  unfolding headed encapsulated
  page-alone none xs =
      let b = bits_are in
      let n : header_size l ≤ suc (length xs) = rw none (omega arith) in
      by-page xs ∙ rw (le-ltb _ _ n, b.2, b.1, eq-eqb l 0 none)

-- ---- "a Space Packet has first three bits 000"

module _ (a : ℕ) (ah : a < 32) where
  space-page : (xs : List ℕ) → measure (a ∷ xs) ≡ headed space_header (suc (length xs)) (space_packet (a ∷ xs))
  unfolding measure measured
  space-page xs = let z : first_bits a ≡ 0 = omega arith in rw (eq-eqb (first_bits a) 0 z)

  pub page-space-lacks : (xs : List ℕ) → suc (length xs) < 6 → measure (a ∷ xs) ≡ Lacks (6 - suc (length xs))
  unfolding headed
  page-space-lacks xs h = space-page xs ∙ rw (lt-ltb _ _ h)

  -- "7 plus the number in its octets 4 and 5 long": low 11 bits all ones are idle.
  pub page-space : (b c d e f : ℕ) (behind : List ℕ)
      → measure (a ∷ b ∷ c ∷ d ∷ e ∷ f ∷ behind)
      ≡ cond ((a * 256 + b) % 2048 =? 2047) (Idle (7 + (e * 256 + f))) (Packet Space (7 + (e * 256 + f)))
  unfolding headed space_packet sized
  page-space b c d e f behind =
      space-page (b ∷ c ∷ d ∷ e ∷ f ∷ behind) ∙ rw (le-ltb (suc (length (b ∷ c ∷ d ∷ e ∷ f ∷ behind))) space_header (omega arith))

-- ---- "any other first octet is unreadable"

pub page_other : (a : ℕ) → 32 ≤ a → a < 224 → (xs : List ℕ) → measure (a ∷ xs) ≡ Unreadable
unfolding measure measured
page_other a h k xs = rw (ne_eqb (first_bits a) 0 (λ e. omega arith), ne_eqb (first_bits a) 0b111 (λ e. omega arith))

-- Every octet is one of these.
pub page_every : (a : ℕ) → 224 ≤ a → a < 256 → a ≡ 0b111 * 32 + (protocol a * 4 + length_of_length a)
page_every a h k = omega arith
