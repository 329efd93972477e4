-- What unpack prints, as docs/PROGRAMS.md has it.
use Rattle.std.specs.Prelude.{ℕ, zero, suc, ◌≤◌, Bool, cond, List, [], ◌++◌, length, get_or}
use Rattle.rules.specs.declared.Answer.{Answer}
use Rattle.rules.specs.declared.Class.{Class}
use Rattle.rules.specs.declared.Reader.{Reader}
use Rattle.rules.specs.declared.Channel.{Channel}
use Rattle.rules.specs.declared.Verdict.{Verdict}
use Rattle.rules.specs.declared.Verdict.TheVariants.{Refused, Idle, Counted, Read, Repeat}
use Rattle.rules.specs.Settings.{no_channel}
use Rattle.rules.specs.Listing.{text, decimal}
use Rattle.listing_text.specs.Puts.{Put, front}
use Rattle.unpack_text.specs.declared.Classes.{Classes}
use Rattle.unpack_text.specs.declared.Sums.{Sums}
use Rattle.unpack_text.specs.declared.LaneTally.{LaneTally}
use Rattle.unpack_text.specs.declared.ChannelTally.{ChannelTally}
use Rattle.unpack_text.specs.declared.Tally.{Tally}
use Rattle.unpack_text.specs.Totals.{no_lane_tally, no_channel_tally, held_in}

-- `xs` was put, n octets at most.
pub record Wrote (n : ℕ) (xs area : List ℕ) (from : ℕ) (area' : List ℕ) (end : ℕ) : Type 0 where
  pub put : Put xs area from area' end
  pub most : length xs ≤ n

unfoldable pub title : List ℕ
title = text "frame answer lane units octets missing idle fill dropped\n"

-- "The lane's number if it is read, or would be, the refusal number if refused, `-` otherwise."
unfoldable pub third : Verdict → List ℕ
third (Refused n) = decimal n
third Idle = text "-"
third (Counted c) = text "-"
third (Read l) = decimal l
third (Repeat c) = text "-"

-- "Units, unit octets, missing, idle, fill and dropped octets."
unfoldable pub given_text : Answer → List ℕ
given_text a = text " " ++ decimal a.units ++ (text " " ++ decimal a.octets) ++ (text " " ++ decimal a.missing)

unfoldable pub rest_text : Answer → List ℕ
rest_text a = text " " ++ decimal a.idle ++ (text " " ++ decimal a.fill) ++ (text " " ++ decimal a.dropped) ++ text "\n"

-- Its number and its class, "or `left` where it is left out".
unfoldable pub front_text : ℕ → Bool → Class → List ℕ
front_text k left class = cond left (decimal k ++ text " left ") (front k class)

-- The line of frame k: its number, its class or that it is left out, whose it is, and its counts.
unfoldable pub frame_line : ℕ → Bool → Verdict → Answer → List ℕ
frame_line k left v a = front_text k left a.class ++ third v ++ given_text a ++ rest_text a

unfoldable pub lane_line : ℕ → LaneTally → List ℕ
lane_line l t =
    text "lane " ++ decimal l
    ++ (text " frames " ++ decimal t.frames)
    ++ (text " units " ++ decimal t.units)
    ++ (text " octets " ++ decimal t.octets)
    ++ text "\n"

unfoldable pub channel_line : ℕ → ℕ → ChannelTally → List ℕ
channel_line vc service t =
    text "channel " ++ decimal vc
    ++ (text " service " ++ decimal service)
    ++ (text " frames " ++ decimal t.frames)
    ++ (text " missing " ++ decimal t.missing)
    ++ text "\n"

unfoldable pub classes_text : Classes → List ℕ
classes_text t =
    text "total frames " ++ decimal t.frames
    ++ (text " read " ++ decimal t.read)
    ++ (text " counted " ++ decimal t.counted)
    ++ (text " idle " ++ decimal t.idle)
    ++ (text " repeat " ++ decimal t.repeats)
    ++ (text " refused " ++ decimal t.refused)
    ++ (text " left " ++ decimal t.left)

unfoldable pub sums_text : Sums → List ℕ
sums_text t =
    text " units " ++ decimal t.units
    ++ (text " octets " ++ decimal t.octets)
    ++ (text " idle " ++ decimal t.idle)
    ++ (text " fill " ++ decimal t.fill)
    ++ (text " dropped " ++ decimal t.dropped)

unfoldable pub total_line : Tally → ℕ → List ℕ
total_line t held = classes_text t.classes ++ sums_text t.sums ++ (text " held " ++ decimal held) ++ text "\n"

-- The first n lines, in order.
unfoldable pub firsts : (ℕ → List ℕ) → ℕ → List ℕ
firsts line zero = []
firsts line (suc n) = firsts line n ++ line n

-- "A line for each lane in order, ..."
unfoldable pub lane_lines : List LaneTally → ℕ → List ℕ
lane_lines ts n = firsts (λ (i : ℕ). lane_line i (get_or ts i no_lane_tally)) n

-- "... a line for each channel in order, ..."
unfoldable pub channel_lines : List Channel → ℕ → List ChannelTally → List ℕ
channel_lines cs n ts = firsts (λ (i : ℕ). channel_line (get_or cs i no_channel).vc (get_or cs i no_channel).service (get_or ts i no_channel_tally)) n

unfoldable pub places_text : Reader → Tally → List ℕ
places_text r t = lane_lines t.lanes r.setting.numbered ++ channel_lines r.setting.channels r.setting.listed t.channels

-- "... and one line for all; `held` is the octets that lanes still hold at the end."
unfoldable pub last_line : Reader → Tally → List ℕ
last_line r t = total_line t (held_in r.slots r.setting.numbered)
