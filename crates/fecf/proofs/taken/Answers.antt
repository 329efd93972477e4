-- `fecf::taken` meets its contract: two octets added are a place in the table, and the number's second octet is the register's first.
use Prim.Native.Nat.{ℕ, ◌+◌, ◌*◌, ◌/◌, ◌%◌, ◌<◌}
use mathlib.Core.Path.{◌≡◌, sym, ap, ap₂, ◌∙◌}
use mathlib.Core.List.{List}
use native.Mathlib.Omega.{arith}
use lib.ListN.{get_or}
use lib.Bits.{bit_xor, xor_lt}
use lib.Pow.{mod-pow-add}
use Rattle.fecf.specs.Remainders.{step_by}
use Rattle.fecf.proofs.Agreement.{moved}
use Rattle.fecf.proofs.taken.Goals as goal

place : (r x : ℕ) → x < 256 → bit_xor (r / 256 % 256) x < 256
place r x b = xor_lt 8 (r / 256 % 256) x (omega arith) b

by_register : (t : List ℕ) (r x : ℕ) → bit_xor (r * 256 % 65536) (get_or t (bit_xor (r / 256 % 256) x) 0) ≡ step_by t (r % 65536) x
unfolding step_by
by_register t r x =
    let octets : r % 65536 ≡ r / 256 % 256 * 256 + r % 256 = mod-pow-add r 8 8 in
    let low : r % 256 ≡ r % 65536 % 256 = omega (arith, octets) in
    let high : r / 256 % 256 ≡ r % 65536 / 256 = omega (arith, octets) in
    ap₂ (λ (m n : ℕ). bit_xor m (get_or t (bit_xor n x) 0)) (moved r ∙ ap (λ (n : ℕ). n * 256) low ∙ sym (moved (r % 65536))) high

pub overflow_cast-i-2 : goal.overflow_cast-i-2
overflow_cast-i-2 c = omega (arith, place c.args.r c.args.x c.ranges.x.fits)

pub offset_bounds-table-i : goal.offset_bounds-table-i
offset_bounds-table-i c = omega (arith, place c.args.r c.args.x c.ranges.x.fits)

pub bounds-table-i : goal.bounds-table-i
bounds-table-i c = place c.args.r c.args.x c.ranges.x.fits

pub returns : goal.returns
returns c = let a = c.args in c.added.ensures ∙ by_register a.table.now a.r a.x
