-- `writer::check_parts` meets its contract: where both tests are passed, the batch has the frame.
use mathlib.Core.Path.{sym}
use native.Mathlib.Omega.{arith}
use Prim.Native.Nat.{◌<◌}
use borrow.Author.Tests.{eq-eqb, lt-leb}
use Rattle.rules.specs.Tests.{given}
use Rattle.rules.specs.Calls.{refusal_of}
use Rattle.rules.specs.Writing.{frames}
use Rattle.writer.specs.Lookups.{late_refusals}
use Rattle.writer.proofs.check_parts.Goals as goal

pub returns : goal.returns
unfolding given refusal_of late_refusals frames
returns c =
    let below : c.args.x.number < c.frames_of.result = omega arith in
    rw (
      eq-eqb _ _ c.if-insert-s.false,
      sym c.ocf_octets.ensures,
      eq-eqb _ _ c.if-ocf-ocf_octets.false,
      sym c.frames_of.ensures,
      lt-leb _ _ below,
    )
