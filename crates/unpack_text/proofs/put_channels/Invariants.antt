-- The lines of the channels passed stand one after another, and each has at most 115 octets.
use Prim.Native.Nat.{ℕ, ◌*◌}
use mathlib.Core.Path.{◌≡◌}
use lib.ListN.{length, get_or}
use Rattle.rules.specs.Settings.{no_channel}
use Rattle.unpack_text.specs.Totals.{no_channel_tally}
use Rattle.unpack_text.specs.Lines.{Wrote, firsts, channel_line}
use Rattle.unpack_text.proofs.put_channels.Given as goal

abbrev pub invariant-loop-c : goal.invariant-loop-c
invariant-loop-c l = (length l.area ≡ length l.initial.area) × Wrote (115 * length l.yielded) (firsts (λ (j : ℕ). channel_line
    (get_or l.channels j no_channel).vc (get_or l.channels j no_channel).service (get_or l.ts j no_channel_tally)) (length l.yielded))
    l.initial.area l.from l.area l.at
