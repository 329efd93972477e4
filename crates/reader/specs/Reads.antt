-- What a read's parts are lent and hand back.
use Rattle.std.specs.Prelude.{◌≡◌, Bool, cond, ◌||◌, ℕ, ◌+◌, ◌≤◌, List, length, Ok}
use Rattle.rules.specs.declared.Class.{Class}
use Rattle.rules.specs.declared.Gap.{Gap}
use Rattle.rules.specs.declared.Reader.{Reader}
use Rattle.rules.specs.declared.Setting.{Setting}
use Rattle.rules.specs.declared.Taken.{Taken}
use Rattle.rules.specs.Tests.{◌<?◌, ◌≠?◌}
use Rattle.rules.specs.Settings.{channel, lane, with_slot, reader_ok}
use Rattle.rules.specs.Calls.{counted, verdict, missing_at}
use Rattle.judge.specs.declared.Sight.{Sight}
use Rattle.judge.specs.declared.Sighting.TheVariants.{Seen}
use Rattle.judge.specs.Sights.{sight_of}
use Rattle.rules.specs.Valid.{GoodReader, Reads}
use Rattle.reader.specs.Finds.{Sound}
use Rattle.lanes.specs.declared.units.Stand.{Stand}
use Rattle.lanes.specs.declared.units.Terms.{Terms}
use Rattle.rules.specs.Areas.{held_size, records_size, units_size}

-- What lane l brings to a frame with count k on the channel at place c: what its records have in common, its longest unit and its kind.
abbrev pub terms_for : Setting → ℕ → ℕ → ℕ → Terms
terms_for s c l k =
    record {
      info = record { lane = l; vc = (channel s c).vc; map = (lane s l).map; service = (channel s c).service; count = k };
      longest = (lane s l).longest;
      kind = (lane s l).kind;
    }

-- The answer and the state once lane l has made its step after gap g.
abbrev pub taken_of : Gap → ℕ → Stand → Taken
taken_of g l led =
    record {
      answer =
          record {
            class = Class.Read;
            units = led.tally.count;
            octets = led.tally.octets;
            missing = g.missing;
            idle = led.tally.idle;
            fill = led.tally.fill;
            dropped = g.dropped + led.tally.dropped;
          };
      state = with_slot g.state l led.slot;
    }

-- A frame that lane l reads after gap g, and areas of the paper's sizes.
pub record OnLane (g : Gap) (l : ℕ) (f h u c : List ℕ) : Type 0 where
  pub good : GoodReader g.state
  pub dropped : g.dropped ≤ held_size
  pub reads : Reads g.state.setting f l
  pub held : length h ≡ held_size
  pub units : units_size ≤ length u
  pub records : records_size ≤ length c

-- An area is too short, of these lengths.
abbrev pub short_of : ℕ → ℕ → ℕ → Bool
short_of h u c = h ≠? held_size || u <? units_size || c <? records_size

-- Then 2 is given, but for a state that is not valid.
abbrev pub short_refusal : Reader → ℕ
short_refusal r = cond (reader_ok r) 2 1

-- The answer and the state of a frame that is Counted, after gap g.
abbrev pub counted_of : Gap → Taken
counted_of g = record { answer = counted g; state = g.state }

-- A sight of this frame, found by the checks of a read that refuse nothing, with as many frames missing.
pub record SeenOn (r : Reader) (x : Sight) (m : ℕ) (f h u c : List ℕ) : Type 0 where
  pub found : Ok (Seen x) ≡ sight_of r.setting f (verdict r f h u c)
  pub missing : m ≡ missing_at r x.channel x.count
  pub sound : Sound r (Seen x)
