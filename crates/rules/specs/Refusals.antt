-- "Refusal numbers", 3 to 12, and what a frame is that none of them applies to.
use Rattle.std.specs.Prelude.{ℕ, zero, suc, ◌-◌, Bool, cond, not, ◌&&◌, ◌||◌, List, [], ◌∷◌, length, Option, Some, None}
use Rattle.rules.specs.declared.Kind.{Kind}
use Rattle.rules.specs.declared.Kind.TheVariants.{Packets, Access}
use Rattle.rules.specs.declared.Refusal.{Refusal}
use Rattle.rules.specs.declared.Setting.{Setting}
use Rattle.rules.specs.declared.Verdict.{Verdict}
use Rattle.rules.specs.declared.Verdict.TheVariants.{Refused, Idle, Counted, Read}
use Rattle.rules.specs.Tests.{◌<?◌, ◌=?◌, ◌≠?◌, first, none, at, Row, refuse, given}
use Rattle.rules.specs.Octets.{flag}
use Rattle.rules.specs.Settings.{channel, lane, zone_for}
use Rattle.rules.specs.Frames.{version, craft, source_bit, vc, map, end_of_header, length_field, bypass, command, spare, ocf_flag, count_length, rule_in, upid_in, pointer_in, check_holds}

-- ---- who owns a frame

-- The place of the channel with this virtual channel and service.
unfoldable pub channel_at : Setting → ℕ → ℕ → Option ℕ
channel_at s v b = first s.listed (λ (c : ℕ). (channel s c).vc =? v && (channel s c).service =? b)

-- The number of the lane of channel c with this map.
unfoldable pub lane_at : Setting → ℕ → ℕ → Option ℕ
lane_at s c m = first s.numbered (λ (l : ℕ). (lane s l).channel =? c && (lane s l).map =? m)

-- ---- the frame's refusals

-- Construction rules of a lane's kind.
unfoldable pub rule_fits : Kind → ℕ → Bool
rule_fits Packets rule = rule =? 0b000
rule_fits Access rule = rule =? 0b001 || rule =? 0b010

-- "Rule or UPID not that lane's, or pointer neither below Z nor FFFF."
unfoldable pub data_wrong : Setting → ℕ → ℕ → List ℕ → Bool
data_wrong s c l f =
    not (rule_fits (lane s l).kind (rule_in s (channel s c) f))
    || upid_in s (channel s c) f ≠? (lane s l).upid
    || not (pointer_in s (channel s c) f <? zone_for s (channel s c) (length f) || pointer_in s (channel s c) f =? 0xFFFF)

-- The rows of the table, from "frame is not F octets" on, for a frame whose virtual channel and service are listed at the place p.
unfoldable pub refusals_at : Setting → List ℕ → Option ℕ → List Row
refusals_at s f p =
    -- "frame is not F octets"
    refuse Refusal.Length (length f ≠? s.length)
    -- "frame check differs"
    ∷ refuse Refusal.Check (not (check_holds s f))
    -- "version is not 1100"
    ∷ refuse Refusal.Version (version f ≠? 0b1100)
    -- "spacecraft or source-or-destination bit differs"
    ∷ refuse Refusal.Craft (craft f ≠? s.craft || source_bit f ≠? s.bit)
    -- "end-of-header flag is 1"
    ∷ refuse Refusal.HeaderEnd (end_of_header f =? 1)
    -- "length field is not F - 1, spare bits not 00, or control command with bypass 0 (house reading)"
    ∷ refuse Refusal.Fields (length_field f ≠? (s.length - 1) || spare f ≠? 0b00 || (command f =? 1 && bypass f =? 0))
    -- "virtual channel not 63 and, with this service, not listed"
    ∷ refuse Refusal.Unlisted (vc f ≠? 63 && none p)
    -- "count length not the channel's (63: not checked)"
    ∷ refuse Refusal.CountLength (at p (λ (c : ℕ). count_length f ≠? (channel s c).octets))
    -- "OCF flag not the channel's (63: not checked)"
    ∷ refuse Refusal.OcfFlag (at p (λ (c : ℕ). ocf_flag f ≠? flag (channel s c).ocf))
    -- "map in a lane of that channel, command bit 0, and rule or UPID not that lane's, or pointer neither below Z nor FFFF"
    ∷ refuse Refusal.DataField (at p (λ (c : ℕ). at (lane_at s c (map f)) (λ (l : ℕ). command f =? 0 && data_wrong s c l f)))
    ∷ []

unfoldable pub refusals : Setting → List ℕ → List Row
refusals s f = refusals_at s f (channel_at s (vc f) (bypass f))

-- ---- "A frame that passes the checks is one of three."

-- "Counted: control command set, or the map is in no lane of that channel; ... Read: all else." Of a frame of channel c whose map is in
-- the lane at the place given.
unfoldable pub on_channel : List ℕ → ℕ → Option ℕ → Verdict
on_channel f c None = Counted c
on_channel f c (Some l) = cond (command f =? 1) (Counted c) (Read l)

-- "Idle: virtual channel 63." No channel has that number.
unfoldable pub passed : Setting → List ℕ → Option ℕ → Verdict
passed s f None = Idle
passed s f (Some c) = on_channel f c (lane_at s c (map f))

-- Refused by this number; 0 is none.
unfoldable pub judged : Setting → List ℕ → ℕ → Verdict
judged s f zero = passed s f (channel_at s (vc f) (bypass f))
judged s f (suc n) = Refused (suc n)

-- What the checks say of a frame.
unfoldable pub judge : Setting → List ℕ → Verdict
judge s f = judged s f (given (refusals s f))
