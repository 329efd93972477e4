-- A lane's step by its parts: how it begins, that each part is ready once the whole is, and that what they leave together is what the whole leaves.
use mathlib.Core.Path.{◌≡◌, refl, sym, ap, subst, ◌∙◌}
use mathlib.Core.Bool.{Bool, true, false}
use mathlib.Core.List.{List, ◌++◌}
use Prim.Native.Nat.{ℕ, ◌≤◌}
use native.Mathlib.Nat.{zero-add, le_refl}
use native.Mathlib.Omega.{arith}
use lib.ListN.{length, take, drop}
use lib.Seq.{length-take-le, take_all, take-take}
use Rattle.std.specs.Prelude.{Option}
use Rattle.std.specs.Prelude.{Some, None}
use Rattle.rules.specs.declared.Fate.{Fate}
use Rattle.rules.specs.declared.Info.{Info}
use Rattle.rules.specs.declared.Slot.{Slot}
use Rattle.rules.specs.Areas.{laid}
use Rattle.rules.specs.Packets.{measure}
use Rattle.rules.specs.Reading.{DataUnit, no_unit, unit_from, unit_of, held_in, Made, fills, both, become, lead_fate, lead, walk, packet_lane, unit_fate, follow_fate, portion, access_lane, lane_step}
use Rattle.rules.proofs.Areas.{laid_nil}
use Rattle.rules.proofs.Lanes.{total, lead-held, lane-total, lane_below, lane-few}
use Rattle.lanes.specs.declared.units.Tally.{Tally}
use Rattle.lanes.specs.declared.units.Stand.{Stand}
use Rattle.lanes.specs.declared.units.Terms.{Terms}
use Rattle.lanes.specs.Hands.{Kept, Room, Handed, Ready, Went}
use Rattle.lanes.specs.declared.Opening.{Opening}
use Rattle.lanes.specs.Steps.{Lent, portion_opening, counted, opened, Goes, Opens, Stepped}
use Rattle.lanes.proofs.Hands.{made_same, both-nothing, room-first, room-second, went-after, only_counted, held-length}

-- ---- how it begins

all-taken : (xs : List ℕ) → take (length xs) xs ≡ xs
all-taken xs = take_all (length xs) xs (le_refl _)

module _ (longest : ℕ) {x : Slot} {held : List ℕ} (kept : Kept x held) (z : List ℕ) where
  abbrev unit : DataUnit
  unit = record { octets = held; span = x.span }

  whole : take x.held held ≡ held
  whole = take_all x.held held (omega (arith, kept.long))

  -- By a lead.
  pub lead-at : {p : ℕ} {f : Fate} → p ≤ length z → f ≡ lead_fate longest false (measure (held ++ take p z)) (length held) (length (take p z))
      → Opens longest (packet_lane longest unit (Some p) z) (record { slot = x; size = p; fill = 0; dropped = 0; fate = f; stops = false }) held z
  unfolding packet_lane lead
  lead-at {p} {f} h e =
      let led : lead longest false unit (take p z) ≡ become f (unit_from (held_in x held) (take p z)) = rw (whole, e) in
      record {
        few = omega (arith, kept.long);
        within = kept.within;
        inside = h;
        rest = packet_lane longest unit (Some p) z;
        split = both-nothing _;
        goes = (
          ap (λ (m : Made). m.held) (sym led) ∙ lead-held longest unit (take p z),
          ap (λ (m : Made). both m (walk longest (drop p z))) led,
        );
      }

  pub lead-nowhere : {f : Fate} → f ≡ lead_fate longest true (measure (held ++ z)) (length held) (length z)
      → Opens longest (packet_lane longest unit None z) (record { slot = x; size = length z; fill = 0; dropped = 0; fate = f; stops = true }) held z
  unfolding packet_lane lead
  lead-nowhere e =
      record {
        few = omega (arith, kept.long);
        within = kept.within;
        inside = le_refl _;
        rest = packet_lane longest unit None z;
        split = both-nothing _;
        goes = rw (whole, all-taken z, e);
      }

  -- Of an access unit's octets, with the fill after its last.
  pub portion-opens : (finished begins : Bool) {n : ℕ} (fill : ℕ) → n ≤ length z
      → Opens longest (both (fills fill) (portion longest finished begins unit (take n z))) (portion_opening longest finished begins x n fill) held z
  unfolding portion portion_opening both
  portion-opens finished true {n} fill h =
      let e = length-take-le n z h in
      record {
        few = omega arith;
        within = omega arith;
        inside = h;
        rest = become (unit_fate longest finished (length (take n z))) (unit_of (take n z));
        split = made_same refl (omega arith) (omega arith) (omega (arith, kept.long));
        goes = rw e;
      }
  portion-opens finished false {n} fill h =
      let e = length-take-le n z h in
      record {
        few = omega (arith, kept.long);
        within = kept.within;
        inside = h;
        rest = become (follow_fate longest finished (length held) (length (take n z))) (unit_from unit (take n z));
        split = refl;
        goes = rw (e, whole, kept.long);
      }

  pub portion-nowhere : (begins : Bool)
      → Opens longest (access_lane longest begins unit None z) (portion_opening longest false begins x (length z) 0) held z
  unfolding access_lane
  portion-nowhere begins =
      rw (← both-nothing (portion longest false begins unit z)) at (rw (all-taken z) at (portion-opens false begins 0 (le_refl _)))

-- ---- two parts

module _ {s : Stand} {u r d z : List ℕ} (a b : Made) (ready : Ready s u r d z (both a b)) where
  ready-first : (z' : List ℕ) → a.held ≡ no_unit → length z' ≤ length z → Ready s u r d z' a
  ready-first z' none less =
      let n : length a.held.octets ≡ 0 = ap (λ (x : DataUnit). length x.octets) none in
      record { room = room-first a b ready.room; held = omega arith; inside = ready.inside; within = ready.within; few = omega arith }

  ready-second : {i : Info} {s₁ : Stand} {u₁ r₁ : List ℕ} (z' : List ℕ) → s₁.slot.held ≤ length d → s₁.slot.span ≤ s₁.slot.held
      → length z' ≤ length z → Handed i s.tally u r a s₁.tally u₁ r₁ → Ready s₁ u₁ r₁ d z' b
  unfolding both
  ready-second z' inside within less first =
      record { room = room-second a b ready.room first; held = ready.held; inside = inside; within = within; few = omega arith }

  -- The first leaves nothing held.
  went-both : {i : Info} {s₁ s₂ : Stand} {u₁ r₁ d₁ u₂ r₂ d₂ : List ℕ} → a.held ≡ no_unit → Went i s.tally u r d a s₁ u₁ r₁ d₁
      → Went i s₁.tally u₁ r₁ d₁ b s₂ u₂ r₂ d₂ → Went i s.tally u r d (both a b) s₂ u₂ r₂ d₂
  went-both none first second =
      let stays = first.part ∙ ap (λ (x : DataUnit). laid d 0 x.octets) none ∙ laid_nil d 0 in
      went-after a b ready.room first.handed (rw stays at second)

-- ---- the opening, and what follows it

abbrev empty : Tally
empty = record { count = 0; octets = 0; idle = 0; fill = 0; dropped = 0 }

-- How the lane stands once what is only counted is.
abbrev pub stand : Opening → Stand
stand o = record { tally = record { count = 0; octets = 0; idle = 0; fill = o.fill; dropped = o.dropped }; slot = o.slot }

module _ (i : Info) {longest : ℕ} {x : Slot} {m : Made} {o : Opening} {z d u r : List ℕ} (ready : Ready (record { tally = empty; slot = x }) u r d z m)
    (opens : Opens longest m o (take x.held d) z) where
  counted-first : Handed i empty u r (counted o) (stand o).tally u r
  counted-first = only_counted refl refl refl refl (sym (zero-add _)) (sym (zero-add _))

  few-held : o.slot.held ≤ x.held
  few-held = omega (arith, held-length ready, opens.few)

  goes_on : {b : Bool} → o.stops ≡ b → Goes b opens.rest (opened o d z) (walk longest (drop o.size z))
  goes_on e =
      subst (λ (b : Bool). Goes b opens.rest (opened o d z) (walk longest (drop o.size z))) e
      (rw (take-take o.slot.held x.held d few-held) at opens.goes)

  ready-whole : Ready (record { tally = empty; slot = x }) u r d z (both (counted o) opens.rest)
  ready-whole = rw opens.split at ready

  ready-rest : Ready (stand o) u r d (take o.size z) opens.rest
  ready-rest =
      let n = length-take-le o.size z opens.inside in
      let inside : o.slot.held ≤ length d = omega (arith, few-held, ready.inside) in
      ready-second (counted o) opens.rest ready-whole (take o.size z) inside opens.within (omega (arith, opens.inside)) counted-first

  pub opens-ready : Ready (stand o) u r d (take o.size z) (opened o d z)
  opens-ready = go o.stops (goes_on refl)
    where
      go : (b : Bool) → Goes b opens.rest (opened o d z) (walk longest (drop o.size z)) → Ready (stand o) u r d (take o.size z) (opened o d z)
      go true e = rw e at ready-rest
      go false e = ready-first (opened o d z) (walk longest (drop o.size z)) (rw e.1 at ready-rest) (take o.size z) e.0 (le_refl _)

  module _ {s₁ : Stand} {u₁ r₁ d₁ : List ℕ} (led : Went i (stand o).tally u r d (opened o d z) s₁ u₁ r₁ d₁) where
    pub stops-went : o.stops ≡ true → Went i empty u r d m s₁ u₁ r₁ d₁
    stops-went e = rw opens.split (went-after (counted o) opens.rest ready-whole.room counted-first (rw (goes_on e) led))

    module _ (e : o.stops ≡ false) where
      ready-both : Ready (stand o) u r d (take o.size z) (both (opened o d z) (walk longest (drop o.size z)))
      ready-both = rw (goes_on e).1 at ready-rest

      pub walks-room : Room s₁.tally u₁ r₁ (walk longest (drop o.size z))
      walks-room = room-second (opened o d z) (walk longest (drop o.size z)) ready-both.room led.handed

      pub walks-went : {s₂ : Stand} {u₂ r₂ d₂ : List ℕ} → Went i s₁.tally u₁ r₁ d₁ (walk longest (drop o.size z)) s₂ u₂ r₂ d₂
          → Went i empty u r d m s₂ u₂ r₂ d₂
      walks-went walked =
          let both-went = went-both (opened o d z) (walk longest (drop o.size z)) ready-both (goes_on e).0 led walked in
          rw opens.split (went-after (counted o) opens.rest ready-whole.room counted-first (rw (goes_on e).1 both-went))

-- ---- the whole

-- What is lent has room for all that a lane makes: every octet goes somewhere, units are few, and less is held than the longest.
pub lent_ready : {terms : Terms} {x : Slot} {p : Option ℕ} {z d u r : List ℕ} (rule : ℕ) → Lent terms x p z d u r
    → Ready (record { tally = empty; slot = x }) u r d z (lane_step terms.kind terms.longest rule (held_in x d) p z)
unfolding total
lent_ready {terms} {x} {p} {z} {d} {u} {r} rule lent =
    let k = terms.kind in
    let longest = terms.longest in
    let inside : x.held ≤ length d = omega (arith, lent.slot.below) in
    let held : length (take x.held d) ≡ x.held = length-take-le x.held d inside in
    let all = lane-total k longest rule (held_in x d) p z in
    let few = lane-few k longest rule (held_in x d) p z in
    let below = lane_below k longest rule (held_in x d) p z lent.enough in
    record {
      room = record { octets = omega arith; records = omega arith; idle = omega arith; fill = omega arith; dropped = omega arith };
      held = omega arith;
      inside = inside;
      within = lent.slot.within;
      few = omega arith;
    }

pub stepped : {i : Info} {m : Made} {u r d : List ℕ} {s : Stand} {u' r' d' : List ℕ} → Went i empty u r d m s u' r' d' → Stepped i m d u r s d' u' r'
stepped w =
    record {
      part = w.part;
      units = w.handed.unit_area;
      records = w.handed.record_area;
      slot = w.slot;
      count = w.handed.count ∙ zero-add _;
      octets = w.handed.octets ∙ zero-add _;
      idle = w.handed.idle ∙ zero-add _;
      fill = w.handed.fill ∙ zero-add _;
      dropped = w.handed.dropped ∙ zero-add _;
    }
