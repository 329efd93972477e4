-- A pair of ends, so far as demand 3 goes: the calls and the reads, what a setting says of its lanes, what the ends' states say of a lane, and
-- the facts on which a run stands. Nothing here knows what a frame looks like, so a pair with other frames has no second proof of the demand.
use mathlib.Core.Path.{◌≡◌, refl, sym, ap, ◌∙◌}
use mathlib.Core.Logic.{◌⊎◌}
use Prim.Native.Nat.{ℕ, ◌^◌, ◌≤◌, ◌<◌}
use mathlib.Core.Bool.{Bool, false}
use mathlib.Core.List.{List, [], map}
use borrow.Author.Tests.{ne_eqb, eq-eqb}
use Rattle.rules.specs.declared.Expect.{Expect}
use Rattle.rules.specs.Writing.{count_after}
use Rattle.rules.specs.Reading.{missing, expected, DataUnit, no_unit}
use Rattle.link.specs.Link.{Lent, Arrival, Frame, Filed}
use Rattle.link.specs.Demand.{lending}
use Rattle.link.proofs.Spans.{Filled, yields, Delivers, Follows}
use Rattle.link.proofs.Invariant.{held_after}

pub record Ends : Type 1 where
  pub Writer : Type 0
  pub Call : Type 0
  -- The reader and its held octets.
  pub Hearer : Type 0
  -- The channel on which a call sends, the frame that it writes, if that is kept or gone, the batch that it lends, and the writer that it leaves.
  pub place : Call → ℕ
  pub frame : Writer → Call → Bool → Frame
  pub batch : Call → List ℕ
  pub next : Writer → Call → Writer
  -- The reader that a read leaves, and what it hands out on each lane.
  pub heard : Hearer → Arrival → Hearer
  pub hands : Hearer → Arrival → ℕ → List Filed
  -- How many lanes there are; the place of a lane's channel, how many octets its counts have, and how many frames gone between two kept ones are
  -- one too many; and the units of a batch.
  pub lanes : ℕ
  pub channel : ℕ → ℕ
  pub octets : ℕ → ℕ
  pub bound : ℕ → ℕ
  pub units : ℕ → List ℕ → List (List ℕ)
  -- Of a lane: the octet with which its next frame starts, if this is the batch that it is at, and its channel's count; the count that is
  -- expected there, and what is held.
  pub start : Writer → ℕ → List ℕ → ℕ
  pub count : Writer → ℕ → ℕ
  pub expect : Hearer → ℕ → Expect
  pub held : Hearer → ℕ → DataUnit
  -- What is asked of a run: the call is accepted in its turn, where each lane last lent these batches; areas are of the size asked for; what
  -- arrives changes nothing at the reader.
  pub Goes : Writer → (ℕ → List ℕ) → Call → Type 0
  pub Enough : Lent → Type 0
  pub Inert : Arrival → Type 0
  -- What holds of the ends between calls.
  pub SoundWriter : Writer → Type 0
  pub SoundHearer : Hearer → Type 0

-- A copy of a frame that arrives.
abbrev pub whole : Frame → Lent → Arrival
whole f lent = record { octets = f.octets; lent = lent }

-- A unit that is handed out with this count.
abbrev pub filed : ℕ → DataUnit → Filed
filed k u = record { octets = u.octets; count = k; span = u.span }

module _ (E : Ends) where
  -- ---- an accepted call that lends b and writes f, after which the writer is w'

  pub record Sends (w : E.Writer) (last : ℕ → List ℕ) (b : List ℕ) (f : Frame) (w' : E.Writer) : Type 0 where
    pub sound : E.SoundWriter w'
    pub lane : f.lane < E.lanes
    pub channel : f.channel ≡ E.channel f.lane
    pub units : f.units ≡ E.units f.lane b
    pub filled : Filled f.units
    -- The frame starts where the lane is, has octets of the batch, and is followed by another or by a batch that begins.
    pub starts : E.start w f.lane (last f.lane) ≡ f.start
    pub some : f.start < f.stop
    pub turn : (f.start ≡ 0) ⊎ (f.units ≡ E.units f.lane (last f.lane))
    pub follows : Follows f.units f.stop (E.start w' f.lane b)
    pub start-other : (l : ℕ) → (f.lane ≡ l → ⊥) → (b : List ℕ) → E.start w' l b ≡ E.start w l b
    -- The channel's count rises by one, and no other.
    pub count-on : (l : ℕ) → l < E.lanes → f.channel ≡ E.channel l → E.count w' l ≡ count_after (E.octets l) (E.count w l)
    pub count-other : (l : ℕ) → (f.channel ≡ E.channel l → ⊥) → E.count w' l ≡ E.count w l

  -- What lanes have after that: the frame's own, and another, which is where it was.
  module _ (w : E.Writer) (last : ℕ → List ℕ) (b : List ℕ) (f : Frame) (w' : E.Writer) (k : Sends w last b f w') where
    abbrev last' : ℕ → List ℕ
    last' = lending f.lane b last

    lent-own : last' f.lane ≡ b
    unfolding lending
    lent-own = rw (eq-eqb f.lane f.lane refl)

    lent_other : (l : ℕ) → (f.lane ≡ l → ⊥) → last' l ≡ last l
    unfolding lending
    lent_other l n = rw (ne_eqb l f.lane (λ e. n (sym e)))

    pub start-own : E.start w' f.lane (last' f.lane) ≡ E.start w' f.lane b
    start-own = ap (E.start w' f.lane) lent-own

    pub units-own : E.units f.lane (last' f.lane) ≡ f.units
    units-own = ap (E.units f.lane) lent-own ∙ sym k.units

    pub start-same : (l : ℕ) → (f.lane ≡ l → ⊥) → E.start w' l (last' l) ≡ E.start w l (last l)
    start-same l n = k.start-other l n (last' l) ∙ ap (E.start w l) (lent_other l n)

    pub units-same : (l : ℕ) → (f.lane ≡ l → ⊥) → E.units l (last' l) ≡ E.units l (last l)
    units-same l n = ap (E.units l) (lent_other l n)

  -- ---- what arrives and changes nothing

  pub record Unmoved (r : E.Hearer) (a : Arrival) : Type 0 where
    pub state : E.heard r a ≡ r
    pub none : (l : ℕ) → E.hands r a l ≡ []

  -- ---- a kept frame, after whose read the reader is r' and these units are handed out

  -- What lane l then holds, before the frame is read.
  abbrev pub holding : E.Writer → E.Hearer → ℕ → DataUnit
  holding w r l = held_after (E.octets l) (E.expect r l) (E.count w l) (E.held r l)

  pub record Heard (w : E.Writer) (r : E.Hearer) (f : Frame) (r' : E.Hearer) (out : ℕ → List Filed) : Type 0 where
    pub sound : E.SoundHearer r'
    pub expect-on : (l : ℕ) → l < E.lanes → f.channel ≡ E.channel l → E.expect r' l ≡ expected (E.octets l) (E.count w l)
    pub expect-other : (l : ℕ) → (f.channel ≡ E.channel l → ⊥) → E.expect r' l ≡ E.expect r l
    -- Other lanes, of the channel and of another one.
    pub held-beside : (l : ℕ) → l < E.lanes → f.channel ≡ E.channel l → (f.lane ≡ l → ⊥) → E.held r' l ≡ holding w r l
    pub held-other : (l : ℕ) → l < E.lanes → (f.channel ≡ E.channel l → ⊥) → (f.lane ≡ l → ⊥) → E.held r' l ≡ E.held r l
    pub none : (l : ℕ) → (f.lane ≡ l → ⊥) → out l ≡ []
    -- The frame's own lane: units with the frame's count.
    pub made : List DataUnit
    pub files : out f.lane ≡ map (filed f.count) made
    pub delivers : Delivers f.units f.start f.stop (holding w r f.lane) (yields made (E.held r' f.lane))

  -- ---- the facts

  -- An accepted call's frame f, of which a copy arrives at r.
  pub record Copied (w : E.Writer) (f : Frame) (r : E.Hearer) (lent : Lent) : Type 0 where
    -- Where the reader misses fewer than the bound, the frame is heard.
    pub new : (l : ℕ) → l < E.lanes → f.channel ≡ E.channel l → missing (E.octets l) (E.expect r l) (E.count w l) < E.bound l
        → Heard w r f (E.heard r (whole f lent)) (E.hands r (whole f lent))
    -- Where its count was the last one taken, nothing changes.
    pub again : (l : ℕ) → l < E.lanes → f.channel ≡ E.channel l → E.expect r l ≡ expected (E.octets l) (E.count w l) → Unmoved r (whole f lent)
    -- One or the other.
    pub either : Heard w r f (E.heard r (whole f lent)) (E.hands r (whole f lent)) ⊎ Unmoved r (whole f lent)

  -- Counts tell as many frames apart as the bound asks for.
  abbrev pub Bounded : Type 0
  Bounded = (l : ℕ) → l < E.lanes → (0 < E.bound l) × (E.bound l ≤ 256 ^ E.octets l)

  pub record Facts : Type 0 where
    pub bounded : Bounded
    pub kept : (w : E.Writer) (x : E.Call) (k : Bool) → (E.frame w x k).kept ≡ k
    pub place : (w : E.Writer) (x : E.Call) (k : Bool) → (E.frame w x k).channel ≡ E.place x
    pub sends : (w : E.Writer) (last : ℕ → List ℕ) (x : E.Call) (k : Bool) → E.SoundWriter w → E.Goes w last x
        → Sends w last (E.batch x) (E.frame w x k) (E.next w x)
    pub unmoved : (r : E.Hearer) (a : Arrival) → E.SoundHearer r → E.Inert a → Unmoved r a
    pub copied : (w : E.Writer) (r : E.Hearer) (last : ℕ → List ℕ) (x : E.Call) (k : Bool) (lent : Lent) → E.SoundWriter w → E.SoundHearer r
        → E.Goes w last x → E.Enough lent → Copied w (E.frame w x k) r lent

  -- ---- fresh ends

  pub record Fresh (w : E.Writer) (r : E.Hearer) : Type 0 where
    pub writer : E.SoundWriter w
    pub hearer : E.SoundHearer r
    pub start : (l : ℕ) (b : List ℕ) → E.start w l b ≡ 0
    pub unknown : (l : ℕ) → l < E.lanes → (E.expect r l).known ≡ false
    pub below : (l : ℕ) → l < E.lanes → (E.expect r l).count < 256 ^ E.octets l
    pub held : (l : ℕ) → l < E.lanes → E.held r l ≡ no_unit
