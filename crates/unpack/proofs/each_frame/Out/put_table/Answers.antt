-- Each area has 174 octets a unit: the small one of 64 units, the large one of 2,048.
use Prim.Native.Nat.{ℕ}
use lib.ListN.{length-replicate}
use native.Mathlib.Omega.{arith}
use Rattle.unpack.proofs.each_frame.Out.put_table.Goals as goal

pub put_lines-requires-2 : goal.put_lines-requires-2
put_lines-requires-2 c =
    let n = c.requires.1 in (n, omega (arith, n, length-replicate {A = ℕ} 356352 0))
