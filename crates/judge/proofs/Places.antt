-- What a valid setting gives the checks: slots that are there, and a data field inside the frame.
use mathlib.Core.Path.{◌≡◌}
use Prim.Native.Nat.{ℕ, ◌+◌, ◌≤◌, ◌<◌}
use native.Mathlib.Omega.{arith}
use mathlib.Core.Bool.{true}
use Rattle.rules.specs.declared.Setting.{Setting}
use Rattle.std.specs.Prelude.{Some}
use Rattle.rules.specs.Settings.{channel, lane, zone, setting_ok}
use Rattle.rules.specs.Refusals.{channel_at, lane_at}
use borrow.Author.Tests.{eqb-true}
use Rattle.rules.proofs.Tests.{and_left, found_at}
use Rattle.rules.specs.Valid.{Good}
use Rattle.rules.proofs.Valid.{good}

-- A place that was found.
pub lane-found : (s : Setting) (c m l : ℕ) → lane_at s c m ≡ Some l → l < s.numbered
unfolding lane_at
lane-found s c m l e = (found_at _ s.numbered l e).0

pub lane-on : (s : Setting) (c m l : ℕ) → lane_at s c m ≡ Some l → (lane s l).channel ≡ c
unfolding lane_at
lane-on s c m l e = eqb-true _ _ (and_left _ _ (found_at _ s.numbered l e).1)

pub channel-found : (s : Setting) (v b c : ℕ) → channel_at s v b ≡ Some c → c < s.listed
unfolding channel_at
channel-found s v b c e = (found_at _ s.listed c e).0

-- Where a frame's parts stand, on channel c.
pub record Fits (s : Setting) (c : ℕ) : Type 0 where
  pub eight : c < 8
  pub seven : (channel s c).octets ≤ 7
  pub insert : s.insert ≤ 64
  pub most : s.length ≤ 4096
  pub inside : 10 + (channel s c).octets + s.insert + zone s (channel s c) ≤ s.length
  pub small : zone s (channel s c) ≤ 4086

pub fits : (s : Setting) (c : ℕ) → setting_ok s ≡ true → c < s.listed → Fits s c
unfolding zone
fits s c ok h =
    let g : Good s = good s ok in
    let k = g.channels c h in
    record {
      eight = omega (arith, g.listed);
      seven = k.seven;
      insert = g.insert;
      most = g.high;
      inside = omega (arith, k.room);
      small = omega (arith, g.high);
    }

pub lane-eight : (s : Setting) (l : ℕ) → setting_ok s ≡ true → l < s.numbered → l < 8
lane-eight s l ok h = omega (arith, (good s ok).numbered)
