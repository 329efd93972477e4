-- What is found of a frame, by the rules' verdict.
use Rattle.std.specs.Prelude.{◌≡◌, true, ℕ, ◌^◌, ◌<◌, List, length, Result, Ok, Err, Some, None}
use Rattle.rules.specs.declared.Setting.{Setting}
use Rattle.rules.specs.declared.Verdict.{Verdict}
use Rattle.rules.specs.Settings.{channel, lane, channel_of, zone_at, zone_for, setting_ok}
use Rattle.rules.specs.Frames.{count_in, rule_in, pointer_in, points_to}
use Rattle.judge.specs.declared.Sight.{Sight}
use Rattle.judge.specs.declared.Sighting.{Sighting}
use Rattle.judge.specs.declared.Sighting.TheVariants.{Idle, Seen, Repeat}

-- A frame of channel c that no lane reads.
abbrev pub counted_sight : ℕ → ℕ → Sight
counted_sight c k = record { channel = c; lane = None; count = k; rule = 0; place = None; begin = 0; size = 0 }

-- A frame that lane l reads.
abbrev pub read_sight : Setting → List ℕ → ℕ → Sight
read_sight s f l =
    record {
      channel = (lane s l).channel;
      lane = Some l;
      count = count_in (channel_of s l) f;
      rule = rule_in s (channel_of s l) f;
      place = points_to (pointer_in s (channel_of s l) f);
      begin = zone_at s (channel_of s l);
      size = zone_for s (channel_of s l) (length f);
    }

-- Of a frame that is refused, by which number.
unfoldable pub sight_of : Setting → List ℕ → Verdict → Result Sighting ℕ
sight_of s f (Verdict.Refused n) = Err n
sight_of s f Verdict.Idle = Ok Idle
sight_of s f (Verdict.Counted c) = Ok (Seen (counted_sight c (count_in (channel s c) f)))
sight_of s f (Verdict.Read l) = Ok (Seen (read_sight s f l))
sight_of s f (Verdict.Repeat c) = Ok (Repeat c)

-- A count that was seen is one of its channel's.
abbrev pub Fitting : Setting → Sighting → Type 0
Fitting s Idle = Unit {0}
Fitting s (Seen x) = x.count < 256 ^ (channel s x.channel).octets
Fitting s (Repeat c) = Unit {0}

-- A frame of F octets on channel c of a valid setting.
pub record OnChannel (s : Setting) (c : ℕ) (f : List ℕ) : Type 0 where
  pub ok : setting_ok s ≡ true
  pub listed : c < s.listed
  pub whole : length f ≡ s.length
