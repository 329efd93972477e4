-- What follows a prefix, put by its case, and the folder that a prefix names.
use Prim.Native.Nat.{ℕ, zero, suc, ◌+◌, ◌≤◌, ◌<◌}
use mathlib.Core.Path.{◌≡◌, refl, sym, ap, ◌∙◌}
use mathlib.Core.Bool.{Bool}
use mathlib.Core.List.{List, [], ◌∷◌, ◌++◌}
use lib.Dec.{lit≤}
use lib.ListN.{length, take, get_or}
use lib.Seq.{length-take-le, take_all}
use native.Mathlib.Omega.{arith}
use borrow.Author.Tests.{lt-ltb, le-ltb, eq-eqb, ne_eqb}
use Rattle.rules.specs.Listing.{text, decimal}
use Rattle.rules.proofs.Areas.{laid-before}
use Rattle.listing_text.specs.Puts.{Put}
use Rattle.unpack_text.specs.Lines.{Wrote}
use Rattle.unpack_text.proofs.Writes.{wrote_text, wrote_more, wrote_then, wrote_length}
use Rattle.unpack_text.proofs.Cuts.{wrote-fits, wrote_front}
use Rattle.outputs.specs.Names.{ending, mark, finished, Named, last_slash}

module _ {name : List ℕ} {n : ℕ} {name' : List ℕ} {end : ℕ} where
  pub lane_ending : (i : ℕ) → i < 8 → Wrote 25 (text ".lane" ++ decimal i) name n name' end → Wrote 25 (ending i) name n name' end
  unfolding ending
  lane_ending i h w = rw (lt-ltb i 8 h) w

  pub table_ending : (i : ℕ) → 8 ≤ i → i ≡ 8 → Put (text ".units.csv") name n name' end → Wrote 25 (ending i) name n name' end
  unfolding ending text
  table_ending i h e p = rw (le-ltb i 8 h, eq-eqb i 8 e) (wrote_more 25 (lit≤ tt) (wrote_text p))

  pub records_ending : (i : ℕ) → 8 ≤ i → (i ≡ 8 → ⊥) → Put (text ".records") name n name' end → Wrote 25 (ending i) name n name' end
  unfolding ending text
  records_ending i h e p = rw (le-ltb i 8 h, ne_eqb i 8 e) (wrote_more 25 (lit≤ tt) (wrote_text p))

-- ---- a name

-- Of a prefix that is longer than 4,096 octets as many, of another one all.
pub cut_length : (prefix : List ℕ) → 4096 < length prefix → 4096 ≡ length (take 4096 prefix)
cut_length prefix h = sym (length-take-le 4096 prefix (omega arith))

pub cut_room : (prefix name : List ℕ) → 4096 < length prefix → 4096 ≤ length name → 0 + length (take 4096 prefix) ≤ length name
cut_room prefix name h room = omega (arith, cut_length prefix h)

module _ (prefix : List ℕ) {name name' : List ℕ} {end : ℕ} where
  pub long_prefix : 4096 < length prefix → Put (take 4096 prefix) name 0 name' end → Wrote 4096 (take 4096 prefix) name 0 name' end
  long_prefix h p = record { put = p; most = omega (arith, cut_length prefix h) }

  pub whole_prefix : length prefix ≤ 4096 → Put prefix name 0 name' end → Wrote 4096 (take 4096 prefix) name 0 name' end
  whole_prefix h p = rw (take_all 4096 prefix h) (wrote_more 4096 h (wrote_text p))

-- Prefix, ending and mark, one put behind the other.
pub named : (prefix : List ℕ) (i : ℕ) (old : Bool) (number : ℕ) {a₀ a₁ a₂ a₃ : List ℕ} {n at end : ℕ} → length a₀ ≡ 4147
    → Wrote 4096 (take 4096 prefix) a₀ 0 a₁ n → Wrote 25 (ending i) a₁ n a₂ at → Wrote 26 (mark old number) a₂ at a₃ end
    → Named prefix i (mark old number) (record { octets = a₃; at = at; end = end })
unfolding finished
named prefix i old number {a₀} {a₁} {a₂} {a₃} {n} {at} {end} l p q r =
    let short : Wrote 4121 (take 4096 prefix ++ ending i) a₀ 0 a₂ at = wrote_then p q (omega arith) in
    let long : Wrote 4147 (take 4096 prefix ++ ending i ++ mark old number) a₀ 0 a₃ end = wrote_then short r (omega arith) in
    let k : at + length (mark old number) ≤ length a₂ = omega (arith, r.most, short.most, short.put.ends, wrote_length short (omega arith)) in
    record {
      short = ap (take at) r.put.octets ∙ laid-before a₂ at (mark old number) k 0 at (omega arith) ∙ wrote_front short;
      long = wrote_front long;
      order = omega (arith, r.put.ends);
      room = wrote-fits long (omega arith);
    }

-- ---- the last `/` of a prefix

pub slash_none : (s : List ℕ) (n e : ℕ) → ((k : ℕ) → k < length s → get_or s k 0 ≡ 47 → ⊥) → e ≡ last_slash n e s
unfolding last_slash
slash_none [] n e h = refl
slash_none (x ∷ xs) n e h =
    rw (ne_eqb x 47 (h 0 (omega arith))) (slash_none xs (suc n) e (λ k l. h (suc k) (omega (arith, l))))

pub slash_last : (s : List ℕ) (n e i : ℕ) → i < length s → get_or s i 0 ≡ 47
    → ((k : ℕ) → i < k → k < length s → get_or s k 0 ≡ 47 → ⊥) → n + i + 1 ≡ last_slash n e s
unfolding last_slash
slash_last [] n e i l q h = absurd (omega (arith, l))
slash_last (x ∷ xs) n e zero l q h =
    rw (eq-eqb x 47 q)
    (omega arith ∙ slash_none xs (suc n) (suc n) (λ k m. h (suc k) (omega arith) (omega (arith, m))))
slash_last (x ∷ xs) n e (suc i) l q h =
    omega arith ∙ slash_last xs (suc n) _ i (omega (arith, l)) q (λ k a b. h (suc k) (omega (arith, a)) (omega (arith, b)))
