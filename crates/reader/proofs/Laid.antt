-- A lane's step on a data field, and what it leaves in the areas.
use mathlib.Core.Path.{◌≡◌, sym, ap, ◌∙◌}
use Prim.Native.Nat.{ℕ, ◌+◌, ◌*◌, ◌≤◌, ◌<◌}
use native.Mathlib.Nat.{add-zero}
use native.Mathlib.Omega.{arith}
use mathlib.Core.List.{List, ◌++◌}
use lib.ListN.{length, take, drop, length-take, length-drop}
use lib.Seq.{length-take-le}
use Rattle.rules.specs.declared.Channel.{Channel}
use Rattle.rules.specs.declared.Gap.{Gap}
use Rattle.rules.specs.declared.Setting.{Setting}
use Rattle.rules.specs.declared.Slot.{Slot}
use Rattle.rules.specs.declared.Taken.{Taken}
use Rattle.rules.specs.Areas.{laid, part_size, units_size}
use Rattle.rules.specs.Reading.{held_in, Made, lane_step, info_of}
use Rattle.rules.specs.Settings.{lane, channel_of, slot, zone_at, zone}
use Rattle.rules.specs.Frames.{zone_in, count_in}
use Rattle.rules.specs.Calls.{laid_out, made_by, read_on}
use Rattle.rules.proofs.Areas.{laid-part}
use Rattle.rules.specs.Valid.{GoodKind}
use Rattle.rules.proofs.Lanes.{lane-total, lane_below, total}
use Rattle.lanes.specs.declared.units.Stand.{Stand}
use Rattle.lanes.specs.declared.units.Terms.{Terms}
use Rattle.lanes.specs.Steps.{Lent, Stepped}
use Rattle.reader.specs.Reads.{taken_of, terms_for, OnLane}
use Rattle.judge.specs.declared.Sight.{Sight}
use Rattle.judge.specs.Sights.{read_sight}
use Rattle.judge.proofs.Places.{Fits, fits, lane-eight}

-- A step, laid out: the answer, the state and the three areas of a read. The lane's part is cut out as n octets.
pub step-laid : (g : Gap) (l k n : ℕ) (m : Made) (h u c : List ℕ) (led : Stand) (d' u' c' : List ℕ) → n ≡ part_size
    → part_size * l + part_size ≤ length h → length m.held.octets ≤ 8192
    → Stepped (info_of g.state.setting l k) m (take n (drop (part_size * l) h)) u c led d' u' c'
    → (t : Taken) → t ≡ taken_of g l led
    → record { taken = t; held_area = take (part_size * l) h ++ (d' ++ drop n (drop (part_size * l) h)); unit_area = u'; record_area = c' }
    ≡ laid_out g l k m h u c
unfolding laid_out
step-laid g l k n m h u c led d' u' c' en room small s t et =
    let a : take (part_size * l) h ++ (d' ++ drop n (drop (part_size * l) h)) ≡ laid h (part_size * l) m.held.octets =
    ap (λ (x : List ℕ). take (part_size * l) h ++ (x ++ drop n (drop (part_size * l) h))) s.part
    ∙ laid-part h (part_size * l) n 0 m.held.octets (omega arith) (omega arith)
    ∙ ap (λ (i : ℕ). laid h i m.held.octets) (add-zero (part_size * l)) in
    rw (et, a, s.units, s.records, s.slot, s.count, s.octets, s.idle, s.fill, s.dropped)

-- ---- a frame that lane l reads after gap g

module _ (g : Gap) (l : ℕ) (f h u c : List ℕ) (o : OnLane g l f h u c) where
  abbrev s : Setting
  s = g.state.setting

  abbrev its : Channel
  its = channel_of s l

  pub eight : l < 8
  eight = lane-eight s l o.good.ok o.reads.numbered

  pub here : Fits s (lane s l).channel
  here = fits s (lane s l).channel o.good.ok (o.good.setting.lanes l o.reads.numbered).channel

  pub room : part_size * l + part_size ≤ length h
  room = let e = eight in omega (arith, o.held)

  kind-of : GoodKind (lane s l).kind (lane s l).longest (lane s l).upid
  kind-of = (o.good.setting.lanes l o.reads.numbered).kind

  zone-long : length (zone_in s its f) ≡ zone s its
  unfolding zone_in zone
  zone-long =
      let a = length-drop (zone_at s its) f in
      rw o.reads.whole (length-take-le (zone s its) (drop (zone_at s its) f) (omega (arith, here.inside, o.reads.whole)))

  pub channel-eight : (x : Sight) → x ≡ read_sight s f l → x.channel < 8
  channel-eight x e = rw e here.eight

  -- The zone lies inside the frame.
  pub inside : (x : Sight) → x ≡ read_sight s f l → x.begin + x.size ≤ length f
  unfolding zone
  inside x e = rw e (omega (arith, here.inside, o.reads.whole))

  -- What is lent of the frame and of the held area: the parts that the code cuts out, m and n octets long. With them go the lane's terms and
  -- its slot.
  module _ (x : Sight) (ex : x ≡ read_sight s f l) (m n : ℕ) (em : m ≡ x.size) (en : n ≡ part_size) (t : Terms) (et : t ≡ terms_for s x.channel l x.count)
      (y : Slot) (ey : y ≡ slot g.state l) where
    abbrev zone-cut : List ℕ
    zone-cut = take m (drop x.begin f)

    abbrev part_cut : List ℕ
    part_cut = take n (drop (part_size * l) h)

    abbrev made : Made
    made = lane_step t.kind t.longest x.rule (held_in y part_cut) x.place zone-cut

    zone-is : zone-cut ≡ zone_in s its f
    unfolding zone_in
    zone-is = rw (em, ex)

    part-long : length part_cut ≡ part_size
    part-long = let a = length-drop (part_size * l) h in let b = room in length-take-le n (drop (part_size * l) h) (omega arith) ∙ en

    pub lent-here : Lent t y x.place zone-cut part_cut u c
    lent-here =
        record {
          units = o.units;
          records = o.records;
          part = part-long;
          slot = rw (et, ey) (o.good.slots l o.reads.numbered);
          most = rw et kind-of.most;
          enough = rw et kind-of.enough;
          zone = let a = zone-long in rw zone-is (omega (arith, here.small));
          inside = rw (zone-is, zone-long, ex) o.reads.pointer;
        }

    made-is : made ≡ made_by g l its f h
    unfolding made_by
    made-is = rw (et, ey, zone-is, en, ex)

    pub few-dropped : (v : ℕ) → v ≡ made.dropped → v ≤ units_size
    unfolding total
    few-dropped v e =
        let all = lane-total t.kind t.longest x.rule (held_in y part_cut) x.place zone-cut in
        let a = length-take y.held part_cut in
        let b = part-long in
        let z : length zone-cut ≡ zone s its = ap length zone-is ∙ zone-long in
        let i = here.small in
        omega arith

    -- The whole read, from the step's own promise.
    pub laid-here : (led : Stand) (d' u' c' : List ℕ) (r : Taken) → Stepped t.info made part_cut u c led d' u' c' → r ≡ taken_of g l led
        → record { taken = r; held_area = take (part_size * l) h ++ (d' ++ drop n (drop (part_size * l) h)); unit_area = u'; record_area = c' }
        ≡ read_on g l its f h u c
    unfolding read_on info_of
    laid-here led d' u' c' r st er =
        let small = lane_below t.kind t.longest x.rule (held_in y part_cut) x.place zone-cut lent-here.enough in
        let info : t.info ≡ info_of s l (count_in its f) = ap (λ (i : Terms). i.info) et ∙ rw ex in
        step-laid g l (count_in its f) n made h u c led d' u' c' en room (omega (arith, lent-here.most)) (rw (sym info) st) r er
        ∙ ap (λ (y : Made). laid_out g l (count_in its f) y h u c) made-is
