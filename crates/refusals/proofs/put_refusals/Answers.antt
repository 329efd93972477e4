-- Line after line.
use Rattle.std.proofs.Common.{◌≡◌, ◌*◌, ◌+◌, get_or, take, drop, rules, arith, refl, ◌∙◌}
use native.Mathlib.Nat.{add_comm}
use lib.Seq.{get_or-drop}
use Rattle.std.proofs.lemmas.List.{get_or-take}
use Rattle.unpack_text.proofs.Writes.{wrote_none, wrote_next, wrote_all}
use Rattle.refusals.specs.Words.{refused_lines}
use Rattle.refusals.proofs.put_refusals.Goals as goal

pub loop-i-init : goal.loop-i-init
loop-i-init c = (refl, wrote_none _ _ _)

pub loop-i-preserved : goal.loop-i-preserved
loop-i-preserved c =
    let l = c.loop-i in
    let e : get_or (take 12 (drop 1 c.args.counts)) l.i 0 ≡ get_or c.args.counts (l.i + 1) 0 =
    get_or-take 12 (drop 1 c.args.counts) l.i 0 (omega arith) ∙ get_or-drop 1 c.args.counts l.i 0 ∙ rw (add_comm 1 l.i) in
    (search rules, wrote_next _ l.i (187 * (l.i + 1)) {m = 187} l.invariant.1 (rw (← e) c.put_refused-at.ensures) (omega arith) (omega arith))

pub returns : goal.returns
unfolding refused_lines
returns c = wrote_all _ 2244 c.loop-i.invariant.1 (omega arith) (omega arith)
