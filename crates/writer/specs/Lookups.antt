-- What a write looks up of its lane, and its later refusals.
use Rattle.std.specs.Prelude.{◌≡◌, ℕ, ◌*◌, not, ◌||◌, List, [], ◌∷◌, length, Result, IfOk}
use Rattle.rules.specs.Calls.{refusal_of}
use Rattle.rules.specs.declared.Refusal.{Refusal}
use Rattle.rules.specs.declared.Setting.{Setting}
use Rattle.rules.specs.declared.Writer.{Writer}
use Rattle.rules.specs.Tests.{◌≤?◌, ◌≠?◌, Row, refuse, given}
use Rattle.rules.specs.Settings.{lane, channel_of, count, number, zone, ocf_octets}
use Rattle.rules.specs.Writing.{batch_ok, frames}
use Rattle.batches.specs.Starts.{StartsAt}
use Rattle.writer.specs.declared.frames.Upcoming.{Upcoming}

unfoldable pub upcoming_of : Writer → ℕ → Upcoming
upcoming_of w l =
    record {
      place = (lane w.setting l).channel;
      lane = lane w.setting l;
      channel = channel_of w.setting l;
      zone = zone w.setting (channel_of w.setting l);
      count = count w (lane w.setting l).channel;
      number = number w l;
    }

-- Refusals 15 and 16, of a lane that is there and a batch that keeps its rule.
unfoldable pub late_refusals : Setting → Upcoming → List ℕ → List ℕ → List ℕ → List Row
late_refusals s x batch insert ocf =
    refuse Refusal.Parts (length insert ≠? s.insert || length ocf ≠? ocf_octets x.channel) ∷ refuse Refusal.FrameNumber (frames x.zone batch ≤? x.number) ∷ []

-- And 14.
unfoldable pub batch_refusals : Writer → ℕ → List ℕ → List ℕ → List ℕ → List Row
batch_refusals w l batch insert ocf =
    refuse Refusal.Batch (not (batch_ok (lane w.setting l).kind (lane w.setting l).longest batch)) ∷ late_refusals w.setting (upcoming_of w l) batch insert ocf

-- The first of these refusals is what was said; where none is, so is the start of the first packet from the frame's zone on.
pub record Judges (w : Writer) (l : ℕ) (batch : List ℕ) (rows : List Row) (j : Result ℕ Refusal) : Type 0 where
  pub says : refusal_of j ≡ given rows
  pub starts : IfOk j (λ (start : ℕ). StartsAt (lane w.setting l).kind batch (number w l * zone w.setting (channel_of w.setting l)) start)
