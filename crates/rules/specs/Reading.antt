-- "Reading": counts, then what a lane makes of a zone, then the records.
use Rattle.std.specs.Prelude.{ℕ, zero, suc, ◌+◌, ◌-◌, ◌%◌, ◌^◌, Bool, true, false, cond, ◌&&◌, List, [], ◌∷◌, ◌++◌, map, length, take, drop, Option, Some, None}
use Rattle.rules.specs.declared.Kind.{Kind}
use Rattle.rules.specs.declared.Kind.TheVariants.{Packets, Access}
use Rattle.rules.specs.declared.Lane.{Lane}
use Rattle.rules.specs.declared.Setting.{Setting}
use Rattle.rules.specs.declared.Expect.{Expect}
use Rattle.rules.specs.declared.Slot.{Slot}
use Rattle.rules.specs.declared.Reader.{Reader}
use Rattle.rules.specs.declared.Measure.{Measure}
use Rattle.rules.specs.declared.Measure.TheVariants.{Lacks, Packet, Idle, Unreadable}
use Rattle.rules.specs.declared.Next.{Next}
use Rattle.rules.specs.declared.Next.TheVariants.{Give, Skip, Keep, Lose}
use Rattle.rules.specs.declared.Fate.{Fate}
use Rattle.rules.specs.declared.Fate.TheVariants.{Hand, Blank, Hold, Drop}
use Rattle.rules.specs.declared.Gap.{Gap}
use Rattle.rules.specs.declared.Info.{Info}
use Rattle.rules.specs.Tests.{◌≤?◌, ◌<?◌, ◌=?◌}
use Rattle.rules.specs.Octets.{be}
use Rattle.rules.specs.Settings.{no_slot, channel, lane, channel_of, expect, with_expect}
use Rattle.rules.specs.Packets.{measure}

-- ---- counts, over n

-- "Missing = (count - expected) modulo 256^n, and 0 if none was expected." What is expected is below 256^n, so nothing is cut off.
unfoldable pub missing : ℕ → Expect → ℕ → ℕ
missing n e k = cond e.known ((k + 256 ^ n - e.count) % 256 ^ n) 0

-- "Expected becomes count + 1 modulo 256^n."
unfoldable pub expected : ℕ → ℕ → Expect
expected n k = record { known = true; count = (k + 1) % 256 ^ n }

-- ---- repeats: "Frames sent twice" (document 02, A3)

-- The last count taken, where one is expected: expected less one, modulo 256^n.
unfoldable pub last_taken : ℕ → Expect → ℕ
last_taken n e = (e.count + 256 ^ n - 1) % 256 ^ n

-- "A frame whose count equals the last one taken on its channel." Where none is expected, none was taken.
unfoldable pub repeats : ℕ → Expect → ℕ → Bool
repeats n e k = e.known && k =? last_taken n e

-- ---- a gap

-- The slots once the lanes that pass have dropped what they hold, and how many octets that drops.
unfoldable pub emptied : (Lane → Bool) → List Lane → List Slot → List Slot
emptied p [] xs = xs
emptied p (l ∷ ls) [] = []
emptied p (l ∷ ls) (x ∷ xs) = cond (p l) no_slot x ∷ emptied p ls xs

unfoldable pub lost : (Lane → Bool) → List Lane → List Slot → ℕ
lost p [] xs = 0
lost p (l ∷ ls) [] = 0
lost p (l ∷ ls) (x ∷ xs) = cond (p l) x.held 0 + lost p ls xs

abbrev pub lanes_of : Setting → List Lane
lanes_of s = take s.numbered s.lanes

-- "If missing is not 0, every lane of that channel first drops what it holds."
unfoldable pub gap_by : Reader → ℕ → ℕ → Gap
gap_by r c zero = record { state = r; missing = 0; dropped = 0 }
gap_by r c (suc m) =
    record {
      state = record { setting = r.setting; expects = r.expects; slots = emptied (λ (l : Lane). l.channel =? c) (lanes_of r.setting) r.slots };
      missing = suc m;
      dropped = lost (λ (l : Lane). l.channel =? c) (lanes_of r.setting) r.slots;
    }

-- "For Counted and Read": a frame of channel c with count k.
unfoldable pub gap : Reader → ℕ → ℕ → Gap
gap r c k =
    gap_by (with_expect r c (expected (channel r.setting c).octets k)) c (missing (channel r.setting c).octets (expect r c) k)

-- ---- units

-- Octets of a unit, and "the unit's frame span (frames of its lane that carry it, first to last)" (document 02, A2), so far.
pub record DataUnit : Type 0 where
  pub octets : List ℕ
  pub span : ℕ

-- What a lane has in hand that holds nothing.
abbrev pub no_unit : DataUnit
no_unit = record { octets = []; span = 0 }

-- A frame carries a unit where octets of it stand in the frame: one frame more, or none.
unfoldable pub carries : List ℕ → ℕ
carries [] = 0
carries (x ∷ xs) = 1

-- What is held of a unit, and the octets of this frame that follow it.
abbrev pub unit_from : DataUnit → List ℕ → DataUnit
unit_from held xs = record { octets = held.octets ++ xs; span = held.span + carries xs }

-- A unit that begins in this frame.
abbrev pub unit_of : List ℕ → DataUnit
unit_of xs = unit_from no_unit xs

-- What a lane with this slot holds: the first octets of its part of the held area, and the span so far.
abbrev pub held_in : Slot → List ℕ → DataUnit
held_in x d = record { octets = take x.held d; span = x.span }

-- The octets of each.
abbrev pub octets_of : List DataUnit → List (List ℕ)
octets_of us = map (λ (u : DataUnit). u.octets) us

-- ---- what a lane makes of octets

-- The units that it hands out, what it holds afterwards, and how many octets were idle, fill or dropped.
pub record Made : Type 0 where
  pub units : List DataUnit
  pub held : DataUnit
  pub idle : ℕ
  pub fill : ℕ
  pub dropped : ℕ

-- What a lane keeps of what it made.
abbrev pub keeps : Made → Slot
keeps m = record { held = length m.held.octets; span = m.held.span }

abbrev pub nothing : Made
nothing = record { units = []; held = no_unit; idle = 0; fill = 0; dropped = 0 }

abbrev pub holds : DataUnit → Made
holds u = record { units = []; held = u; idle = 0; fill = 0; dropped = 0 }

abbrev pub drops : ℕ → Made
drops n = record { units = []; held = no_unit; idle = 0; fill = 0; dropped = n }

abbrev pub fills : ℕ → Made
fills n = record { units = []; held = no_unit; idle = 0; fill = n; dropped = 0 }

-- A unit, and then what is made of the octets after it.
abbrev pub hands : DataUnit → Made → Made
hands u m = record { units = u ∷ m.units; held = m.held; idle = m.idle; fill = m.fill; dropped = m.dropped }

-- Idle octets, and then what is made of those after them.
abbrev pub idles : ℕ → Made → Made
idles n m = record { units = m.units; held = m.held; idle = n + m.idle; fill = m.fill; dropped = m.dropped }

-- One after the other, where the first leaves nothing held.
unfoldable pub both : Made → Made → Made
both a b =
    record {
      units = a.units ++ b.units;
      held = b.held;
      idle = a.idle + b.idle;
      fill = a.fill + b.fill;
      dropped = a.dropped + b.dropped;
    }

-- What a unit's octets become, all of them together.
abbrev pub become : Fate → DataUnit → Made
become Hand u = hands u nothing
become Blank u = idles (length u.octets) nothing
become Hold u = holds u
become Drop u = drops (length u.octets)

-- ---- "Packet lane": held octets and lead

-- "With a pointer above 0, the packet must end exactly where the lead does; ... With FFFF it may also go on, to be held, but not end
-- sooner. If it fails this, ... or is longer than the lane's longest, held octets and lead are dropped." A packet of `size` octets
-- of which n are there; `on` says that it may go on, `done` what it is when it ends here.
unfoldable pub end_fate : ℕ → Bool → ℕ → ℕ → Fate → Fate
end_fate longest on size n done =
    cond (size ≤? longest) (cond (size =? n) done (cond on (cond (n <? size) Hold Drop) Drop)) Drop

-- "A cut packet that already has at least as many octets as the lane's longest is too long" (document 02, A5): n octets, of a packet whose size they do
-- not say.
abbrev pub too_long : ℕ → ℕ → Bool
too_long longest n = longest ≤? n

-- One that had to end has not; one that may go on is held, unless it is too long.
unfoldable pub cut_fate : ℕ → Bool → ℕ → Fate
cut_fate longest on n = cond on (cond (too_long longest n) Drop Hold) Drop

-- "If it ... is unreadable, ... held octets and lead are dropped; a finished idle one counts as idle octets. The longest binds idle
-- packets too."
unfoldable pub joined_fate : ℕ → Bool → Measure → ℕ → Fate
joined_fate longest on (Lacks k) n = cut_fate longest on n
joined_fate longest on (Packet f size) n = end_fate longest on size n Hand
joined_fate longest on (Idle size) n = end_fate longest on size n Blank
joined_fate longest on Unreadable n = Drop

-- "With nothing held, the lead is dropped. Otherwise the lead follows the held octets." "Pointer 0 fails": there is no lead.
unfoldable pub lead_fate : ℕ → Bool → Measure → ℕ → ℕ → Fate
lead_fate longest on m h n = cond (h =? 0) Drop (cond (n =? 0) Drop (joined_fate longest on m (h + n)))

unfoldable pub lead : ℕ → Bool → DataUnit → List ℕ → Made
lead longest on held xs =
    become (lead_fate longest on (measure (held.octets ++ xs)) (length held.octets) (length xs)) (unit_from held xs)

-- ---- "Packet lane": the packets from the pointer on

-- A packet of `size` octets at the front of n: longer than the longest, whole, or cut by the zone's end.
unfoldable pub sized_next : ℕ → ℕ → ℕ → Next → Next
sized_next longest size n done = cond (size ≤? longest) (cond (size ≤? n) done Keep) Lose

-- One whose size n octets do not say: too long, or cut by the zone's end.
unfoldable pub cut_next : ℕ → ℕ → Next
cut_next longest n = cond (too_long longest n) Lose Keep

-- "Idle ones are left out, a packet cut by the zone's end is held (fewer than 6 octets of it too), an unreadable or too long one
-- drops itself and the rest of the zone."
unfoldable pub next_of : ℕ → Measure → ℕ → Next
next_of longest (Lacks k) n = cut_next longest n
next_of longest (Packet f size) n = sized_next longest size n (Give size)
next_of longest (Idle size) n = sized_next longest size n (Skip size)
next_of longest Unreadable n = Lose

-- The packet at the front, and then what the octets after it make.
abbrev pub front : Next → List ℕ → (List ℕ → Made) → Made
front (Give n) xs rest = hands (unit_of (take n xs)) (rest (drop n xs))
front (Skip n) xs rest = idles n (rest (drop n xs))
front Keep xs rest = holds (unit_of xs)
front Lose xs rest = drops (length xs)

-- At most n packets.
unfoldable pub walk_up_to : ℕ → ℕ → List ℕ → Made
walk_up_to longest zero xs = nothing
walk_up_to longest (suc n) xs = front (next_of longest (measure xs) (length xs)) xs (λ (ys : List ℕ). walk_up_to longest n ys)

-- "From the pointer on, packets are read one after another." There are no more than octets.
unfoldable pub walk : ℕ → List ℕ → Made
walk longest xs = walk_up_to longest (length xs) xs

-- "The lead is the octets before the pointer, or the whole zone for FFFF." Told where the first packet starts, or that none does.
unfoldable pub packet_lane : ℕ → DataUnit → Option ℕ → List ℕ → Made
packet_lane longest held (Some p) z = both (lead longest false held (take p z)) (walk longest (drop p z))
packet_lane longest held None z = lead longest true held z

-- ---- "Access lane"

-- "A unit that reaches its last octet is handed out. One above the longest, or at the longest and still unfinished, is dropped
-- whole." Of n octets so far.
unfoldable pub unit_fate : ℕ → Bool → ℕ → Fate
unit_fate longest finished n = cond finished (cond (n ≤? longest) Hand Drop) (cond (n <? longest) Hold Drop)

-- "010 follows what is held; if nothing is, its octets up to the last are dropped."
unfoldable pub follow_fate : ℕ → Bool → ℕ → ℕ → Fate
follow_fate longest finished h n = cond (h =? 0) Drop (unit_fate longest finished (h + n))

-- "Rule 001 drops what is held and begins."
unfoldable pub portion : ℕ → Bool → Bool → DataUnit → List ℕ → Made
portion longest finished true held xs = both (drops (length held.octets)) (become (unit_fate longest finished (length xs)) (unit_of xs))
portion longest finished false held xs = become (follow_fate longest finished (length held.octets) (length xs)) (unit_from held xs)

-- "Octets after the last are fill." Told where the unit's last octet is, or that it goes on.
unfoldable pub access_lane : ℕ → Bool → DataUnit → Option ℕ → List ℕ → Made
access_lane longest begins held (Some p) z = both (fills (length z - (p + 1))) (portion longest true begins held (take (p + 1) z))
access_lane longest begins held None z = portion longest false begins held z

-- ---- a lane of either kind: its longest, the construction rule, what it holds, what the pointer points to, and the zone

unfoldable pub lane_step : Kind → ℕ → ℕ → DataUnit → Option ℕ → List ℕ → Made
lane_step Packets longest rule held p z = packet_lane longest held p z
lane_step Access longest rule held p z = access_lane longest (rule =? 0b001) held p z

-- ---- records

-- "Record, sizes in octets: lane 1, virtual channel 1, map 1, service 1, start 4, length 4", and "as before up to the length, then the count in 8
-- octets, then 4 octets: the unit's frame span" (document 02, A2). The count is the finishing frame's.
unfoldable pub record_of : Info → ℕ → ℕ → ℕ → List ℕ
record_of i start size span = i.lane ∷ i.vc ∷ i.map ∷ i.service ∷ be 4 start ++ be 4 size ++ be 8 i.count ++ be 4 span

-- "Units stand back to back from the start of the unit area, each with one ... record."
unfoldable pub records_from : Info → ℕ → List DataUnit → List ℕ
records_from i start [] = []
records_from i start (u ∷ us) = record_of i start (length u.octets) u.span ++ records_from i (start + length u.octets) us

unfoldable pub info_of : Setting → ℕ → ℕ → Info
info_of s l k =
    record { lane = l; vc = (channel_of s l).vc; map = (lane s l).map; service = (channel_of s l).service; count = k }
