-- How many frames were refused, number by number, and which was the first.
use Rattle.std.specs.Prelude.{ℕ, zero, suc, cond, Option, Some, None, List, length, get_or, set, take, replicate}
use Rattle.rules.specs.declared.Answer.{Answer}
use Rattle.rules.specs.declared.Setting.{Setting}
use Rattle.rules.specs.declared.Verdict.{Verdict}
use Rattle.rules.specs.Areas.{laid}
use Rattle.rules.specs.Tests.{◌<?◌}
use Rattle.unpack_text.specs.Totals.{add, tallied, no_tally, passed_over as tallied_over}
use Rattle.refusals.specs.declared.First.{First}
use Rattle.refusals.specs.declared.Refusals.{Refusals}
use Rattle.refusals.specs.declared.Totals.{Totals}

-- One frame more that was refused with number n.
unfoldable pub raised : List ℕ → ℕ → List ℕ
raised counts n = set counts n (add (get_or counts n 0) 1)

-- The first seven octets of a frame, with zeros for those that it does not have.
unfoldable pub front_of : List ℕ → List ℕ
front_of f = laid (replicate 7 0) 0 (take 7 f)

-- What is kept of the first refused frame, once there is one: later ones change nothing.
unfoldable pub first_after : Option First → ℕ → List ℕ → Option First
first_after (Some p) k f = Some p
first_after None k f = Some (record { frame = k; octets = length f; front = front_of f })

-- With frame k more, refused or not.
unfoldable pub refused_after : Refusals → Verdict → ℕ → List ℕ → Refusals
refused_after t (Verdict.Refused n) k f = record { counts = raised t.counts n; first = first_after t.first k f }
refused_after t Verdict.Idle k f = t
refused_after t (Verdict.Counted c) k f = t
refused_after t (Verdict.Read l) k f = t
refused_after t (Verdict.Repeat c) k f = t

-- The totals with one frame more, whose number is how many there were before it.
unfoldable pub totalled : Setting → Totals → Verdict → Answer → List ℕ → Totals
totalled s t v a f =
    record { tally = tallied s t.tally v a; refusals = refused_after t.refusals v t.tally.classes.frames f }

-- With one frame more that was left out: the refusals are as they were.
unfoldable pub passed_over : Totals → Totals
passed_over t = record { tally = tallied_over t.tally; refusals = t.refusals }

unfoldable pub no_refusals : Refusals
no_refusals = record { counts = replicate 13 0; first = None }

unfoldable pub no_totals : Totals
no_totals = record { tally = no_tally; refusals = no_refusals }

-- Of two numbers the one with more frames, and the first where they have as many.
unfoldable pub commoner : List ℕ → ℕ → ℕ → ℕ
commoner counts best i = cond (get_or counts best 0 <? get_or counts i 0) i best

-- "The refusal number of the most frames (the lowest, where several have as many)", of those below n; 0 where there is none.
unfoldable pub commonest : List ℕ → ℕ → ℕ
commonest counts zero = 0
commonest counts (suc n) = commoner counts (commonest counts n) n
