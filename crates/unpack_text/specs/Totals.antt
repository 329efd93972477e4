-- The totals of a recording, frame by frame.
use Rattle.std.specs.Prelude.{ℕ, zero, suc, ◌+◌, min, List, get_or, set, replicate}
use Rattle.rules.specs.declared.Answer.{Answer}
use Rattle.rules.specs.declared.Class.{Class}
use Rattle.rules.specs.declared.Class.TheVariants.{Idle, Counted, Read, Repeat, Refused}
use Rattle.rules.specs.declared.Setting.{Setting}
use Rattle.rules.specs.declared.Slot.{Slot}
use Rattle.rules.specs.declared.Verdict.{Verdict}
use Rattle.rules.specs.Settings.{no_slot, lane}
use Rattle.unpack_text.specs.declared.Classes.{Classes}
use Rattle.unpack_text.specs.declared.Sums.{Sums}
use Rattle.unpack_text.specs.declared.LaneTally.{LaneTally}
use Rattle.unpack_text.specs.declared.ChannelTally.{ChannelTally}
use Rattle.unpack_text.specs.declared.Tally.{Tally}

-- A sum stops at the largest number of 64 bits.
unfoldable pub add : ℕ → ℕ → ℕ
add a b = min (a + b) 18446744073709551615

-- One frame more, and one of its class.
unfoldable pub classed : Classes → Class → Classes
classed t Idle =
    record { frames = add t.frames 1; read = t.read; counted = t.counted; idle = add t.idle 1; repeats = t.repeats; refused = t.refused; left = t.left }
classed t Counted =
    record { frames = add t.frames 1; read = t.read; counted = add t.counted 1; idle = t.idle; repeats = t.repeats; refused = t.refused; left = t.left }
classed t Read =
    record { frames = add t.frames 1; read = add t.read 1; counted = t.counted; idle = t.idle; repeats = t.repeats; refused = t.refused; left = t.left }
classed t Repeat =
    record { frames = add t.frames 1; read = t.read; counted = t.counted; idle = t.idle; repeats = add t.repeats 1; refused = t.refused; left = t.left }
classed t (Refused n) =
    record { frames = add t.frames 1; read = t.read; counted = t.counted; idle = t.idle; repeats = t.repeats; refused = add t.refused 1; left = t.left }

-- An answer's units and octets, added.
unfoldable pub summed : Sums → Answer → Sums
summed t a =
    record {
      units = add t.units a.units;
      octets = add t.octets a.octets;
      idle = add t.idle a.idle;
      fill = add t.fill a.fill;
      dropped = add t.dropped a.dropped;
    }

unfoldable pub lane_after : LaneTally → ℕ → ℕ → LaneTally
lane_after t units octets = record { frames = add t.frames 1; units = add t.units units; octets = add t.octets octets }

unfoldable pub channel_after : ChannelTally → ℕ → ChannelTally
channel_after t missing = record { frames = add t.frames 1; missing = add t.missing missing }

abbrev pub no_lane_tally : LaneTally
no_lane_tally = record { frames = 0; units = 0; octets = 0 }

abbrev pub no_channel_tally : ChannelTally
no_channel_tally = record { frames = 0; missing = 0 }

unfoldable pub in_lane : List LaneTally → ℕ → ℕ → ℕ → List LaneTally
in_lane xs l units octets = set xs l (lane_after (get_or xs l no_lane_tally) units octets)

unfoldable pub in_channel : List ChannelTally → ℕ → ℕ → List ChannelTally
in_channel xs c missing = set xs c (channel_after (get_or xs c no_channel_tally) missing)

-- A lane has the frames that it reads.
unfoldable pub lanes_after : List LaneTally → Verdict → ℕ → ℕ → List LaneTally
lanes_after xs (Verdict.Refused n) units octets = xs
lanes_after xs Verdict.Idle units octets = xs
lanes_after xs (Verdict.Counted c) units octets = xs
lanes_after xs (Verdict.Read l) units octets = in_lane xs l units octets
lanes_after xs (Verdict.Repeat c) units octets = xs

-- A channel has the frames that are counted on it, and those that its lanes read: those that are taken, so no repeat.
unfoldable pub channels_after : Setting → List ChannelTally → Verdict → ℕ → List ChannelTally
channels_after s xs (Verdict.Refused n) missing = xs
channels_after s xs Verdict.Idle missing = xs
channels_after s xs (Verdict.Counted c) missing = in_channel xs c missing
channels_after s xs (Verdict.Read l) missing = in_channel xs (lane s l).channel missing
channels_after s xs (Verdict.Repeat c) missing = xs

-- The totals with one frame more.
unfoldable pub tallied : Setting → Tally → Verdict → Answer → Tally
tallied s t v a =
    record {
      classes = classed t.classes a.class;
      sums = summed t.sums a;
      lanes = lanes_after t.lanes v a.units a.octets;
      channels = channels_after s t.channels v a.missing;
    }

-- With one frame more that was left out: it is in no class, and in no line of a lane or a channel.
unfoldable pub passed_over : Tally → Tally
passed_over t =
    record {
      classes =
          record {
            frames = add t.classes.frames 1;
            read = t.classes.read;
            counted = t.classes.counted;
            idle = t.classes.idle;
            repeats = t.classes.repeats;
            refused = t.classes.refused;
            left = add t.classes.left 1;
          };
      sums = t.sums;
      lanes = t.lanes;
      channels = t.channels;
    }

unfoldable pub no_tally : Tally
no_tally =
    record {
      classes = record { frames = 0; read = 0; counted = 0; idle = 0; repeats = 0; refused = 0; left = 0 };
      sums = record { units = 0; octets = 0; idle = 0; fill = 0; dropped = 0 };
      lanes = replicate 8 no_lane_tally;
      channels = replicate 8 no_channel_tally;
    }

-- How many octets the first n lanes hold together.
unfoldable pub held_in : List Slot → ℕ → ℕ
held_in slots zero = 0
held_in slots (suc n) = add (held_in slots n) (get_or slots n no_slot).held
