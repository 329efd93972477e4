-- `gaps::gap_by` meets its contract: by whether frames are missing, as the rule is.
use Rattle.gaps.proofs.Gaps.{gap-none, gap-some}
use Rattle.gaps.proofs.gap_by.Goals as goal

pub returns-then-missing-eq0 : goal.returns-then-missing-eq0
returns-then-missing-eq0 c = gap-none _ c.args.c c.if-missing-eq0.true

pub returns : goal.returns
returns c = rw (c.emptied_of.ensures, c.lost_of.ensures) (gap-some _ c.args.c c.args.missing c.if-missing-eq0.false)
