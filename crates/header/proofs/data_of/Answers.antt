-- `header::data_of` meets its contract: each field is the number of three octets, less what stands behind the field, modulo its width.
use Rattle.rules.specs.Octets.{bits}
use Rattle.header.specs.Heads.{data_of}
use Rattle.header.proofs.data_of.Goals as goal

pub returns : goal.returns
unfolding data_of bits
returns c = rw (c.bits.ensures.0, c.bits-2.ensures.0, c.bits-3.ensures.0, c.front-n.ensures)
