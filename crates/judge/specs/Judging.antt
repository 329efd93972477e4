-- The checks of a frame, one question after another.
use Rattle.std.specs.Prelude.{ℕ, ◌-◌, Bool, cond, not, ◌&&◌, ◌||◌, List, length, Option, Some, None}
use Rattle.rules.specs.declared.Setting.{Setting}
use Rattle.rules.specs.declared.Verdict.{Verdict}
use Rattle.rules.specs.declared.Verdict.TheVariants.{Refused, Idle, Counted, Read}
use Rattle.rules.specs.declared.Lane.{Lane}
use Rattle.header.specs.declared.Head.{Head}
use Rattle.header.specs.declared.Data.{Data}
use Rattle.header.specs.Heads.{head_of}
use Rattle.rules.specs.Tests.{◌<?◌, ◌=?◌, ◌≠?◌}
use Rattle.rules.specs.Octets.{flag}
use Rattle.rules.specs.Settings.{channel}
use Rattle.rules.specs.Frames.{vc, map, bypass, command, ocf_flag, count_length, check_holds}
use Rattle.rules.specs.Refusals.{channel_at, lane_at, rule_fits, data_wrong}

-- Rule, UPID or pointer not those of lane a, on a channel with a zone of z octets.
unfoldable pub data_wrong_of : Lane → ℕ → Data → Bool
data_wrong_of a z d = not (rule_fits a.kind d.rule) || d.upid ≠? a.upid || not (d.pointer <? z || d.pointer =? 0xFFFF)

-- Of a frame of channel c whose map is in lane l: 12, or it is read.
unfoldable pub judge_data : Setting → ℕ → ℕ → List ℕ → Verdict
judge_data s c l f = cond (data_wrong s c l f) (Refused 12) (Read l)

-- Whose map is in the lane at this place, if any.
unfoldable pub judge_map : Setting → ℕ → List ℕ → Option ℕ → Verdict
judge_map s c f None = Counted c
judge_map s c f (Some l) = cond (command f =? 1) (Counted c) (judge_data s c l f)

-- Of channel c: 10, 11, and on.
unfoldable pub judge_listed : Setting → ℕ → List ℕ → Verdict
judge_listed s c f =
    cond (count_length f ≠? (channel s c).octets) (Refused 10)
    (cond (ocf_flag f ≠? flag (channel s c).ocf) (Refused 11) (judge_map s c f (lane_at s c (map f))))

-- Of the channel at this place, if any: 9, and on.
unfoldable pub judge_channel : Setting → List ℕ → Option ℕ → Verdict
judge_channel s f None = cond (vc f ≠? 63) (Refused 9) Idle
judge_channel s f (Some c) = judge_listed s c f

-- 8, by the header; 0 is none.
unfoldable pub field_refusal : Setting → Head → ℕ
field_refusal s h = cond (h.length ≠? (s.length - 1) || h.spare ≠? 0b00 || (h.command =? 1 && h.bypass =? 0)) 8 0

-- 5 to 8.
unfoldable pub head_refusal : Setting → Head → ℕ
head_refusal s h = cond (h.version ≠? 0b1100) 5 (cond (h.craft ≠? s.craft || h.bit ≠? s.bit) 6 (cond (h.ending =? 1) 7 (field_refusal s h)))

unfoldable pub judge_head : Setting → List ℕ → Verdict
judge_head s f =
    cond (head_refusal s (head_of f) =? 0) (judge_channel s f (channel_at s (vc f) (bypass f))) (Refused (head_refusal s (head_of f)))

-- 3, 4, and on.
unfoldable pub judge_frame : Setting → List ℕ → Verdict
judge_frame s f = cond (length f ≠? s.length) (Refused 3) (cond (not (check_holds s f)) (Refused 4) (judge_head s f))
