-- `fecf::added` meets its contract: numbers are added bit by bit, so that the high half of one is not seen in the low half.
use Prim.Native.Nat.{ℕ, ◌*◌, ◌%◌, ◌<◌}
use mathlib.Core.Path.{◌≡◌, ap₂, ◌∙◌}
use native.Mathlib.Omega.{arith}
use lib.Bits.{bit_xor, xor_mod}
use Rattle.fecf.proofs.added.Goals as goal

low_half : (r e : ℕ) → e < 65536 → bit_xor (r % 16777216 * 256) e % 65536 ≡ bit_xor (r * 256 % 65536) e
low_half r e b =
    let moved : r % 16777216 * 256 % 65536 ≡ r * 256 % 65536 = omega arith in
    let whole : e % 65536 ≡ e = omega arith in
    xor_mod (r % 16777216 * 256) e 16 ∙ ap₂ bit_xor moved whole

pub returns : goal.returns
returns c = low_half c.args.r c.args.entry c.ranges.entry.fits
