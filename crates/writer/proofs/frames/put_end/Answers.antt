-- `writer::frames::put_end` meets its contract: the check is over the octets before it as they stand once the OCF is laid.
use mathlib.Core.Path.{sym, ap, ◌∙◌}
use Prim.Native.Nat.{ℕ, ◌+◌, ◌≤◌}
use native.Mathlib.Omega.{arith}
use mathlib.Core.List.{List, append-nil}
use lib.ListN.{length, take}
use lib.Seq.{length-take-le}
use Rattle.rules.specs.Octets.{be, check_of}
use Rattle.rules.specs.Areas.{laid}
use Rattle.rules.proofs.Areas.{length-laid}
use Rattle.writer.proofs.Laying.{end-laid}
use borrow.Author.Rules.{rules}
use Rattle.writer.proofs.frames.put_end.Goals as goal

pub slice_bounds-check_of-end-then-check : goal.slice_bounds-check_of-end-then-check
slice_bounds-check_of-end-then-check c = sym (length-take-le _ _ (search rules))

pub lay_number-requires : goal.lay_number-requires
lay_number-requires c =
    let a = c.args in
    let h : a.from + length a.ocf.now + 2 ≤ length a.area.now = rw c.if-check.true at c.requires in
    rw (c.lay.ensures, length-laid a.area.now a.from a.ocf.now (omega arith)) h

pub returns-then-check : goal.returns-then-check
returns-then-check c =
    let a = c.args in
    let n = a.from + length a.ocf.now in
    rw c.if-check.true
    (c.lay_number.ensures ∙ ap (λ (v : ℕ). laid c.lay.new.area n (be 2 v)) c.check_of-v.ensures
    ∙ ap (λ (x : List ℕ). laid x n (be 2 (check_of (take n x)))) c.lay.ensures ∙ end-laid a.area.now a.from a.ocf.now (omega arith))

pub returns-else-check : goal.returns-else-check
returns-else-check c =
    let a = c.args in
    rw c.if-check.false (c.lay.ensures ∙ ap (laid a.area.now a.from) (sym (append-nil a.ocf.now)))
