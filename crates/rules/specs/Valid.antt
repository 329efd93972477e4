-- What a valid setting, a valid state and a frame that is Read are known to be, fact by fact: what functions inside may rely on once the
-- checks have passed. Each follows from the rules (proofs of the same name).
use Rattle.std.specs.Prelude.{◌≡◌, ℕ, ◌^◌, ◌≤◌, ◌<◌, true, List, length, Option, Some, None}
use Rattle.rules.specs.declared.Kind.{Kind}
use Rattle.rules.specs.declared.Kind.TheVariants.{Packets, Access}
use Rattle.rules.specs.declared.Setting.{Setting}
use Rattle.rules.specs.declared.Slot.{Slot}
use Rattle.rules.specs.declared.Reader.{Reader}
use Rattle.rules.specs.declared.Writer.{Writer}
use Rattle.rules.specs.Settings.{channel, lane, channel_of, expect, slot, count, number, zone, setting_ok}
use Rattle.rules.specs.Frames.{rule_in, pointer_in, points_to}
use Rattle.rules.specs.Refusals.{channel_at, lane_at, rule_fits}

-- ---- a lane's kind

-- The least that a lane's longest unit may be.
abbrev pub least : Kind → ℕ
least Packets = 2
least Access = 1

pub record GoodKind (k : Kind) (longest protocol : ℕ) : Type 0 where
  pub enough : least k ≤ longest
  pub most : longest ≤ 8192
  pub upid : protocol ≤ 30

-- ---- the setting

pub record GoodChannel (s : Setting) (c : ℕ) : Type 0 where
  pub vc : (channel s c).vc ≤ 62
  pub service : (channel s c).service ≤ 1
  pub one : 1 ≤ (channel s c).octets
  pub seven : (channel s c).octets ≤ 7
  pub room : 1 ≤ zone s (channel s c)
  pub found : channel_at s (channel s c).vc (channel s c).service ≡ Some c

pub record GoodLane (s : Setting) (l : ℕ) : Type 0 where
  pub channel : (lane s l).channel < s.listed
  pub map : (lane s l).map ≤ 15
  pub kind : GoodKind (lane s l).kind (lane s l).longest (lane s l).upid
  pub found : lane_at s (lane s l).channel (lane s l).map ≡ Some l

pub record Good (s : Setting) : Type 0 where
  pub low : 32 ≤ s.length
  pub high : s.length ≤ 4096
  pub craft : s.craft ≤ 65535
  pub bit : s.bit ≤ 1
  pub insert : s.insert ≤ 64
  pub listed : s.listed ≤ 8
  pub numbered : s.numbered ≤ 8
  pub channels : (c : ℕ) → c < s.listed → GoodChannel s c
  pub lanes : (l : ℕ) → l < s.numbered → GoodLane s l

-- ---- states

-- What is held is less than the longest unit. Each frame that carries it has an octet of it, and where something is held, some frame does.
pub record GoodSlot (longest : ℕ) (x : Slot) : Type 0 where
  pub below : x.held < longest
  pub within : x.span ≤ x.held
  pub some : 0 < x.held → 0 < x.span

pub record GoodReader (r : Reader) : Type 0 where
  pub ok : setting_ok r.setting ≡ true
  pub setting : Good r.setting
  pub counts : (c : ℕ) → c < r.setting.listed → (expect r c).count < 256 ^ (channel r.setting c).octets
  pub slots : (l : ℕ) → l < r.setting.numbered → GoodSlot (lane r.setting l).longest (slot r l)

pub record GoodWriter (w : Writer) : Type 0 where
  pub ok : setting_ok w.setting ≡ true
  pub setting : Good w.setting
  pub counts : (c : ℕ) → c < w.setting.listed → count w c < 256 ^ (channel w.setting c).octets
  pub numbers : (l : ℕ) → l < w.setting.numbered → number w l ≤ 32767

-- ---- a frame that lane l reads

-- The place that a pointer points to, if any, is in a zone of z octets.
abbrev pub Inside : ℕ → Option ℕ → Type 0
Inside z (Some i) = i < z
Inside z None = Unit {0}

pub record Reads (s : Setting) (f : List ℕ) (l : ℕ) : Type 0 where
  pub numbered : l < s.numbered
  pub whole : length f ≡ s.length
  pub rule : rule_fits (lane s l).kind (rule_in s (channel_of s l) f) ≡ true
  pub pointer : Inside (zone s (channel_of s l)) (points_to (pointer_in s (channel_of s l) f))
