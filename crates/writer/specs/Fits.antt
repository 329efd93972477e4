-- The upcoming frame, and what is needed to lay it.
use Rattle.std.specs.Prelude.{ℕ, ◌+◌, ◌*◌, ◌≤◌, ◌<◌, List, length}
use Rattle.rules.specs.declared.Setting.{Setting}
use Rattle.rules.specs.Settings.{check_octets}
use Rattle.rules.specs.Frames.{body, checked}
use Rattle.rules.specs.Writing.{zone_of, rule_of, pointer_of}
use Rattle.writer.specs.declared.frames.Upcoming.{Upcoming}

-- The frame that is upcoming.
unfoldable pub upcoming_frame : Setting → Upcoming → List ℕ → List ℕ → List ℕ → List ℕ
upcoming_frame s x batch insert ocf =
    checked s
    (body s x.channel x.lane x.count insert (rule_of x.lane.kind x.number) (pointer_of x.lane.kind x.zone batch x.number)
    (zone_of x.lane.kind x.zone batch x.number) ocf)

-- Its fields fit, the batch has it, and the area has room for it.
pub record FrameFits (s : Setting) (x : Upcoming) (batch insert ocf area : List ℕ) : Type 0 where
  pub some : 1 ≤ s.length
  pub most : s.length ≤ 65536
  pub octets : x.channel.octets ≤ 7
  pub begins : x.number * x.zone < length batch
  pub small : x.zone ≤ 4096
  pub room : 7 + x.channel.octets + length insert + 3 + x.zone + length ocf + check_octets s ≤ length area
