-- "Writing."
use Rattle.std.specs.Prelude.{ℕ, ◌+◌, ◌-◌, ◌*◌, ◌/◌, ◌%◌, ◌^◌, Bool, true, cond, ◌&&◌, List, [], ◌∷◌, ◌++◌, length, take, drop, set, replicate, Option, Some, None}
use Rattle.rules.specs.declared.Kind.{Kind}
use Rattle.rules.specs.declared.Kind.TheVariants.{Packets, Access}
use Rattle.rules.specs.declared.Setting.{Setting}
use Rattle.rules.specs.declared.Writer.{Writer}
use Rattle.rules.specs.Tests.{◌≤?◌, ◌<?◌, ◌=?◌, all}
use Rattle.rules.specs.Areas.{joined, batch_size}
use Rattle.rules.specs.Settings.{lane, channel_of, zone, count, number}
use Rattle.rules.specs.Frames.{body, checked, pointer_to}
use Rattle.rules.specs.Packets.{packets}

-- ---- batches

-- None of these units is above n octets.
unfoldable pub none_above : ℕ → List (List ℕ) → Bool
none_above n [] = true
none_above n (u ∷ us) = length u ≤? n && none_above n us

-- "A packet batch is 1 to 32,768 octets of whole Space Packets back to back, none idle, none above the lane's longest. An access
-- batch is one unit of 1 octet up to the lane's longest." "Writer batches may mix both families, none idle" (document 02, A5).
unfoldable pub batch_ok : Kind → ℕ → List ℕ → Bool
batch_ok Packets longest b =
    all (1 ≤? length b ∷ length b ≤? batch_size ∷ length (joined (packets b)) =? length b ∷ none_above longest (packets b) ∷ [])
batch_ok Access longest b = all (1 ≤? length b ∷ length b ≤? longest ∷ [])

-- The units that a batch carries.
abbrev pub units_of : Kind → List ℕ → List (List ℕ)
units_of Packets b = packets b
units_of Access b = b ∷ []

-- ---- "The frames of a batch are its octets cut every Z."

-- How many there are.
unfoldable pub frames : ℕ → List ℕ → ℕ
frames z b = (length b + (z - 1)) / z

-- Frame k's octets of the batch.
abbrev pub piece : ℕ → List ℕ → ℕ → List ℕ
piece z b k = take z (drop (k * z) b)

-- "The rest of the last zone is E0 octets (packet lane) or 00 (access lane)."
abbrev pub fill : Kind → ℕ
fill Packets = 0xE0
fill Access = 0x00

unfoldable pub zone_of : Kind → ℕ → List ℕ → ℕ → List ℕ
zone_of k z b i = piece z b i ++ replicate (z - length (piece z b i)) (fill k)

-- ---- rule and pointer

-- "000 packets spanning frames; 001 start of an access unit; 010 its continuation." Frame i of a batch.
unfoldable pub rule_of : Kind → ℕ → ℕ
rule_of Packets i = 0b000
rule_of Access i = cond (i =? 0) 0b001 0b010

-- Of packets back to back, the first octet from octet n on at which one starts. Where none does, it is their end: there the fill
-- starts, if any. For n within them.
unfoldable pub start_from : List (List ℕ) → ℕ → ℕ
start_from [] n = 0
start_from (p ∷ ps) n = cond (n =? 0) 0 (length p + start_from ps (n - length p))

-- "For 000 it is the offset in the zone of the first packet that starts there, idle ones included; ... For 001 and 010 it is the
-- offset of the unit's last octet; ..." Counted from the zone's first octet on, of a frame that the batch has.
unfoldable pub offset_of : Kind → ℕ → List ℕ → ℕ → ℕ
offset_of Packets z b i = start_from (packets b) (i * z) - i * z
offset_of Access z b i = length b - 1 - i * z

-- An offset that is in a zone of z octets.
unfoldable pub inside : ℕ → ℕ → Option ℕ
inside z n = cond (n <? z) (Some n) None

-- "FFFF if none starts." "FFFF if the unit goes on."
unfoldable pub pointer_of : Kind → ℕ → List ℕ → ℕ → ℕ
pointer_of k z b i = pointer_to (inside z (offset_of k z b i))

-- ---- the frame, and the state after it

-- Frame i of a batch on lane l, with count k.
unfoldable pub frame_of : Setting → ℕ → ℕ → List ℕ → List ℕ → List ℕ → ℕ → List ℕ
frame_of s l k b insert ocf i =
    checked s
    (body s (channel_of s l) (lane s l) k insert (rule_of (lane s l).kind i)
    (pointer_of (lane s l).kind (zone s (channel_of s l)) b i) (zone_of (lane s l).kind (zone s (channel_of s l)) b i) ocf)

-- "The frame number rises, and returns to 0 after the last." After frame i of n.
unfoldable pub number_after : ℕ → ℕ → ℕ
number_after i n = cond ((i + 1) =? n) 0 (i + 1)

-- "The channel's count rises by one modulo 256^n."
unfoldable pub count_after : ℕ → ℕ → ℕ
count_after n k = (k + 1) % 256 ^ n

unfoldable pub writer_after : Writer → ℕ → List ℕ → Writer
writer_after w l b =
    record {
      setting = w.setting;
      counts =
          set w.counts (lane w.setting l).channel
          (count_after (channel_of w.setting l).octets (count w (lane w.setting l).channel));
      next = set w.next l (number_after (number w l) (frames (zone w.setting (channel_of w.setting l)) b));
    }
