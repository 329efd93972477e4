-- `header::head_of` meets its contract: each field is the number of seven octets, less what stands behind the field, modulo its width.
use Rattle.rules.specs.Octets.{bits}
use Rattle.header.specs.Heads.{head_of}
use Rattle.header.proofs.head_of.Goals as goal

pub returns : goal.returns
unfolding head_of bits
returns c =
    rw (
      c.bits.ensures.0,
      c.bits-2.ensures.0,
      c.bits-3.ensures.0,
      c.bits-4.ensures.0,
      c.bits-5.ensures.0,
      c.bits-6.ensures.0,
      c.bits-7.ensures.0,
      c.bits-8.ensures.0,
      c.bits-9.ensures.0,
      c.bits-10.ensures.0,
      c.bits-11.ensures.0,
      c.bits-12.ensures.0,
      c.front-n.ensures,
    )
