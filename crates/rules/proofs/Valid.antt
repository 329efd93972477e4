-- The rules of a valid setting and a valid state give each fact that they are made of.
use mathlib.Core.Path.{◌≡◌, refl, sym, ap₂, ◌∙◌}
use Prim.Native.Nat.{ℕ, ◌≤◌, ◌<◌}
use native.Mathlib.Omega.{arith}
use mathlib.Core.Bool.{Bool, true, false, cond, not, ◌&&◌, beq, true≢false, false≢true}
use borrow.Author.Tests.{ltb-true, ltb-false, leb-true, eqb-true, eq-eqb, ne_eqb, not-true}
use Rattle.rules.specs.declared.Kind.{Kind}
use Rattle.rules.specs.declared.Kind.TheVariants.{Packets, Access}
use Rattle.rules.specs.declared.Channel.{Channel}
use Rattle.rules.specs.declared.Lane.{Lane}
use Rattle.rules.specs.declared.Setting.{Setting}
use Rattle.rules.specs.declared.Slot.{Slot}
use Rattle.rules.specs.declared.Reader.{Reader}
use Rattle.rules.specs.declared.Writer.{Writer}
use Rattle.rules.specs.Tests.{◌=?◌, ◌≠?◌}
use Rattle.rules.specs.Settings.{channel, lane, slot, ranges_ok, channel_ok, channels_agree, channels_ok, kind_ok, lane_ok, lanes_differ, lanes_ok, setting_ok, slot_ok, reader_ok, writer_ok}
use Rattle.rules.specs.Refusals.{channel_at, lane_at}
use Rattle.rules.specs.Valid.{GoodKind, GoodChannel, GoodLane, Good, GoodSlot, GoodReader, GoodWriter}
use Rattle.rules.proofs.Tests.{split, all-at, every-at, first-at}

-- ---- a lane's kind

pub good_kind : (k : Kind) (longest upid : ℕ) → kind_ok k longest upid ≡ true → GoodKind k longest upid
unfolding kind_ok
good_kind Packets longest upid e =
    let u : upid ≡ 0 = eqb-true _ _ (all-at _ 2 e) in
    record { enough = leb-true _ _ (all-at _ 0 e); most = leb-true _ _ (all-at _ 1 e); upid = omega arith }
good_kind Access longest upid e =
    record { enough = leb-true _ _ (all-at _ 0 e); most = leb-true _ _ (all-at _ 1 e); upid = leb-true _ _ (all-at _ 3 e) }

pub some_longest : (k : Kind) (longest upid : ℕ) → GoodKind k longest upid → 1 ≤ longest
some_longest Packets longest upid g = omega (arith, g.enough)
some_longest Access longest upid g = g.enough

-- ---- the setting: look-up finds a listed channel and a numbered lane: no earlier one is like it

same-pair : ℕ → ℕ → ℕ → ℕ → Bool
same-pair a b x y = a =? x && b =? y

pair_self : (a b : ℕ) → same-pair a b a b ≡ true
unfolding same-pair
pair_self a b = ap₂ ◌&&◌ (eq-eqb a a refl) (eq-eqb b b refl)

channels_differ : (a b : Channel) → channels_agree a b ≡ true → same-pair a.vc a.service b.vc b.service ≡ false
unfolding channels_agree same-pair
channels_differ a b e = go (a.vc =? b.vc) (a.service =? b.service) e
  where
    go : (x y : Bool) → cond x (not y && beq a.ocf b.ocf) true ≡ true → (x && y) ≡ false
    go true true h = absurd (false≢true h)
    go true false h = refl
    go false y h = refl

lanes-differ : (a b : Lane) → lanes_differ a b ≡ true → same-pair a.channel a.map b.channel b.map ≡ false
unfolding lanes_differ same-pair
lanes-differ a b e = go (a.channel =? b.channel && a.map =? b.map) e
  where
    go : (t : Bool) → not t ≡ true → t ≡ false
    go true h = absurd (false≢true h)
    go false h = refl

module _ (s : Setting) where
  good-channel : channels_ok s ≡ true → (c : ℕ) → c < s.listed → GoodChannel s c
  unfolding channels_ok channel_ok channel_at same-pair
  good-channel e c h =
      let o = every-at _ s.listed (all-at _ 2 e) c h in
      record {
        vc = leb-true _ _ (all-at _ 0 o);
        service = leb-true _ _ (all-at _ 1 o);
        one = leb-true _ _ (all-at _ 2 o);
        seven = leb-true _ _ (all-at _ 3 o);
        room = leb-true _ _ (all-at _ 4 o);
        found =
            first-at _ s.listed c h (pair_self (channel s c).vc (channel s c).service)
            (λ j l. channels_differ (channel s j) (channel s c) (every-at _ c (every-at _ s.listed (all-at _ 3 e) c h) j l));
      }

  good-lane : lanes_ok s ≡ true → (l : ℕ) → l < s.numbered → GoodLane s l
  unfolding lanes_ok lane_ok lane_at same-pair
  good-lane e l h =
      let o = every-at _ s.numbered (all-at _ 2 e) l h in
      record {
        channel = ltb-true _ _ (all-at _ 0 o);
        map = leb-true _ _ (all-at _ 1 o);
        kind = good_kind _ _ _ (all-at _ 2 o);
        found =
            first-at _ s.numbered l h (pair_self (lane s l).channel (lane s l).map)
            (λ j k. lanes-differ (lane s j) (lane s l) (every-at _ l (every-at _ s.numbered (all-at _ 3 e) l h) j k));
      }

  good-parts : ranges_ok s ≡ true → channels_ok s ≡ true → lanes_ok s ≡ true → Good s
  unfolding ranges_ok channels_ok lanes_ok
  good-parts r c l =
      record {
        low = leb-true _ _ (all-at _ 0 r);
        high = leb-true _ _ (all-at _ 1 r);
        craft = leb-true _ _ (all-at _ 2 r);
        bit = leb-true _ _ (all-at _ 3 r);
        insert = leb-true _ _ (all-at _ 4 r);
        listed = leb-true _ _ (all-at _ 1 c);
        numbered = leb-true _ _ (all-at _ 1 l);
        channels = good-channel c;
        lanes = good-lane l;
      }

  pub good : setting_ok s ≡ true → Good s
  unfolding setting_ok
  good e = good-parts (all-at _ 0 e) (all-at _ 1 e) (all-at _ 2 e)

-- Lane l's channel is a good one.
pub good_channel_of : {s : Setting} → Good s → (l : ℕ) → l < s.numbered → GoodChannel s (lane s l).channel
good_channel_of {s} g l h = g.channels (lane s l).channel (g.lanes l h).channel

-- ---- states

some_span : (x : Slot) → 0 < x.held → x.span ≡ 0 → (x.span =? 0 && x.held ≠? 0) ≡ true
some_span x h z = rw (eq-eqb x.span 0 z, ne_eqb x.held 0 (λ q. omega arith))

good_slot_of : (longest : ℕ) (x : Slot) → slot_ok longest x ≡ true → GoodSlot longest x
unfolding slot_ok
good_slot_of longest x e =
    record {
      below = ltb-true _ _ (all-at _ 0 e);
      within = ltb-false _ _ (not-true _ (all-at _ 1 e));
      some = λ h. split 1 x.span (λ k. k) (λ k. absurd (true≢false (sym (some_span x h (omega arith)) ∙ not-true _ (all-at _ 2 e))));
    }

pub good_reader : (r : Reader) → reader_ok r ≡ true → GoodReader r
unfolding reader_ok
good_reader r e =
    record {
      ok = all-at _ 0 e;
      setting = good r.setting (all-at _ 0 e);
      counts = λ c h. ltb-true _ _ (every-at _ r.setting.listed (all-at _ 1 e) c h);
      slots = λ l h. good_slot_of _ (slot r l) (every-at _ r.setting.numbered (all-at _ 2 e) l h);
    }

pub good_writer : (w : Writer) → writer_ok w ≡ true → GoodWriter w
unfolding writer_ok
good_writer w e =
    record {
      ok = all-at _ 0 e;
      setting = good w.setting (all-at _ 0 e);
      counts = λ c h. ltb-true _ _ (every-at _ w.setting.listed (all-at _ 1 e) c h);
      numbers = λ l h. leb-true _ _ (every-at _ w.setting.numbered (all-at _ 2 e) l h);
    }
