-- The record's numbers, the unit's front, and what measures it.
use native.Mathlib.Nat.{div-one}
use Rattle.rules.specs.Octets.{bits}
use Rattle.unit_table.specs.Rows.{row_of, number_at, apid, sequence}
use Rattle.unit_table.proofs.row_of.Goals as goal

pub returns : goal.returns
unfolding row_of apid sequence bits number_at
returns c = rw (
  c.family_of.ensures,
  c.measure_at-m.ensures,
  c.rest.ensures,
  c.add.ensures,
  c.number_at-front.ensures,
  c.number_at-4.ensures,
  c.number_at-3.ensures,
  c.number_at-2.ensures,
  c.number_at.ensures,
  c.number_at-start.ensures,
  div-one,
)
