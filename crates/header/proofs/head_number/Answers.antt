-- `header::head_number` meets its contract: a sum of fields, each times the width of those behind it.
use mathlib.Core.Path.{◌≡◌}
use Prim.Native.Nat.{◌+◌, ◌*◌, ◌^◌}
use native.Mathlib.Omega.{arith}
use Rattle.rules.specs.Octets.{packed, widths}
use Rattle.header.specs.declared.Head.{Head}
use Rattle.header.specs.Heads.{head_fields}
use Rattle.header.proofs.head_number.Goals as goal

-- The fields' number, added up from the first on.
head-sum : (h : Head) →
    h.version * 2 ^ 52 + h.craft * 2 ^ 36 + h.bit * 2 ^ 35 + h.vc * 2 ^ 29 + h.map * 2 ^ 25 + h.ending * 2 ^ 24 + h.length * 2 ^ 8 + h.bypass * 2 ^ 7
    + h.command * 2 ^ 6 + h.spare * 2 ^ 4 + h.ocf * 2 ^ 3 + h.octets * 2 ^ 0 ≡ packed (head_fields h)
unfolding packed widths head_fields
head-sum h = omega arith

-- The number is the sum, and so small that no part of the sum is too large.
pub returns : goal.returns
returns c =
    rw (
      c.at-version.ensures,
      c.at-craft.ensures,
      c.at-bit.ensures,
      c.at-vc.ensures,
      c.at-map.ensures,
      c.at-ending.ensures,
      c.at-length.ensures,
      c.at-bypass.ensures,
      c.at-command.ensures,
      c.at-spare.ensures,
      c.at-ocf.ensures,
      c.at-octets.ensures,
    )
    (head-sum c.args.h)
