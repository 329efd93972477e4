-- What was put stands inside the area, and can be cut out of it.
use Prim.Native.Nat.{ℕ, ◌+◌, ◌≤◌}
use mathlib.Core.Path.{◌≡◌, sym, ap₂, ◌∙◌}
use mathlib.Core.List.{List}
use lib.ListN.{length, take}
use lib.Seq.{length-take-le}
use native.Mathlib.Omega.{arith}
use Rattle.rules.proofs.Areas.{laid-front}
use Rattle.unpack_text.specs.Lines.{Wrote}
use Rattle.unpack_text.proofs.Writes.{wrote_length}

module _ {n : ℕ} {xs area : List ℕ} {from : ℕ} {area' : List ℕ} {end : ℕ} where
  pub wrote-fits : Wrote n xs area from area' end → from + n ≤ length area → end ≤ length area'
  wrote-fits w room = omega (arith, w.put.ends, w.most, wrote_length w room)

  pub wrote-cut : Wrote n xs area from area' end → from + n ≤ length area → end ≡ length (take end area')
  wrote-cut w room = sym (length-take-le end area' (wrote-fits w room))

-- What was put at the front is what is cut out.
pub wrote_front : {n : ℕ} {xs area area' : List ℕ} {end : ℕ} → Wrote n xs area 0 area' end → take end area' ≡ xs
wrote_front {n} {xs} {area} {area'} {end} w =
    let e : end ≡ length xs = omega (arith, w.put.ends) in
    ap₂ (λ (i : ℕ) (a : List ℕ). take i a) e w.put.octets ∙ laid-front area xs
