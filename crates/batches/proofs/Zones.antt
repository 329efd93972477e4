-- The zones that a batch is cut into: how many there are, and offsets in one.
use mathlib.Core.Path.{◌≡◌, sym, ◌∙◌}
use mathlib.Core.List.{List}
use Prim.Native.Nat.{ℕ, ◌+◌, ◌-◌, ◌*◌, ◌/◌, ◌%◌, ◌<◌}
use native.Mathlib.Nat.{add-mul, one-mul, mul-one, mod-lt, div-add-mod', div-lt_self, div-eq_of_lt-le}
use native.Mathlib.Omega.{arith}
use Rattle.rules.specs.declared.Kind.{Kind}
use Rattle.rules.specs.declared.Kind.TheVariants.{Packets, Access}
use Rattle.rules.specs.Writing.{offset_of}

-- ---- how many zones of z octets n octets take: the quotient, and one more where something is left

module _ (z n : ℕ) (pos : 0 < z) where
  more : (k : ℕ) → (k + 1) * z ≡ k * z + z
  more k = add-mul k 1 z ∙ rw (one-mul z)

  -- Octets that fill their zones.
  pub frames-full : n % z ≡ 0 → n / z ≡ (n + (z - 1)) / z
  frames-full e =
      let a = div-add-mod' n z in
      let b = more (n / z) in
      sym (div-eq_of_lt-le {k = n / z} z {m = n + (z - 1)} (omega (arith, a)) (omega (arith, a, b)))

  -- Octets that leave room in the last.
  pub frames-rest : (n % z ≡ 0 → ⊥) → n / z + 1 ≡ (n + (z - 1)) / z
  frames-rest e =
      let a = div-add-mod' n z in
      let b = more (n / z) in
      let c = more (n / z + 1) in
      let d = mod-lt n pos in
      sym (div-eq_of_lt-le {k = n / z + 1} z {m = n + (z - 1)} (omega (arith, a, b, d, e)) (omega (arith, a, b, c, d)))

  pub frames-below : (n % z ≡ 0 → ⊥) → n / z < n
  frames-below e = let a = div-add-mod' n z in let d = mod-lt n pos in div-lt_self (omega (arith, a, d, e)) (omega (arith, d, e))

-- ---- the offset in a zone

-- It goes by the octet at which the zone starts.
pub offset_from : (k : Kind) (z : ℕ) (b : List ℕ) (i : ℕ) → offset_of k 1 b (i * z) ≡ offset_of k z b i
unfolding offset_of
offset_from Packets z b i = rw (mul-one (i * z))
offset_from Access z b i = rw (mul-one (i * z))
