-- What happens in a run of any pair of ends, and what is sent on a channel meanwhile: none, or the frame of an accepted call. A number that is no lane is
-- handed nothing, and nothing is due there.
use mathlib.Core.Path.{◌≡◌, refl, sym, ap, ap₂, ◌∙◌, subst}
use mathlib.Core.Logic.{◌⊎◌, inl, inr}
use Prim.Native.Nat.{ℕ, ◌≤◌}
use native.Mathlib.Omega.{arith}
use mathlib.Core.Bool.{Bool}
use mathlib.Core.List.{List, [], ◌∷◌, ◌++◌}
use borrow.Author.Tests.{eq-eqb, ne_eqb}
use Rattle.rules.proofs.Tests.{same}
use Rattle.link.specs.Link.{Frame, Lent, Event, Writes, Copy, Stray, arrives, sent, Arrival, Air, sending, copied, arrivals, Filed}
use Rattle.link.specs.Due.{due}
use Rattle.link.specs.Demand.{lending}
use Rattle.link.proofs.Ends.{Ends, whole, Sends, Unmoved, Heard, Copied, Facts}
use Rattle.link.proofs.Views.{due-not}

module _ (E : Ends) where
  abbrev pub Events : Type 0
  Events = List (Event E.Call)

  -- The frames in the places of their calls, and the writer after these; what the reads of what arrives hand out on lane l.
  unfoldable pub flies : E.Writer → Events → List (Event Frame)
  flies w [] = []
  flies w (Writes x ∷ es) = Writes (E.frame w x (arrives E.place (E.place x) es)) ∷ flies (E.next w x) es
  flies w (Copy c a ∷ es) = Copy c a ∷ flies w es
  flies w (Stray f a ∷ es) = Stray f a ∷ flies w es

  unfoldable pub after : E.Writer → Events → E.Writer
  after w [] = w
  after w (Writes x ∷ es) = after (E.next w x) es
  after w (Copy c a ∷ es) = after w es
  after w (Stray f a ∷ es) = after w es

  unfoldable pub hearing : ℕ → E.Hearer → List Arrival → List Filed
  hearing l r [] = []
  hearing l r (a ∷ more) = E.hands r a l ++ hearing l (E.heard r a) more

  -- What is asked of a run: calls in order, areas of the size asked for, and octets besides copies that change nothing.
  abbrev pub Runs : E.Writer → (ℕ → List ℕ) → Events → Type 0
  Runs w last [] = Unit {0}
  Runs w last (Writes x ∷ es) =
      let f : Frame = E.frame w x (arrives E.place (E.place x) es) in
      E.Goes w last x × Runs (E.next w x) (lending f.lane (E.batch x) last) es
  Runs w last (Copy c a ∷ es) = E.Enough a × Runs w last es
  Runs w last (Stray f a ∷ es) = E.Inert (record { octets = f; lent = a }) × Runs w last es

  -- ---- what is sent on a channel

  -- The frame of an accepted call.
  pub record Flight (c : ℕ) (o : List ℕ) : Type 0 where
    pub writer : E.Writer
    pub last : ℕ → List ℕ
    pub call : E.Call
    pub kept : Bool
    pub sound : E.SoundWriter writer
    pub goes : E.Goes writer last call
    pub octets : o ≡ (E.frame writer call kept).octets
    pub on : (E.frame writer call kept).channel ≡ c

  abbrev pub frame : {c : ℕ} {o : List ℕ} → Flight c o → Frame
  frame g = E.frame g.writer g.call g.kept

  abbrev pub flight : (w : E.Writer) (last : ℕ → List ℕ) (x : E.Call) (k : Bool) → E.SoundWriter w → E.Goes w last x → {c : ℕ}
      → (E.frame w x k).channel ≡ c → Flight c (E.frame w x k).octets
  flight w last x k sw go e = record { writer = w; last = last; call = x; kept = k; sound = sw; goes = go; octets = refl; on = e }

  -- The reader after a copy of it, and what that hands out.
  abbrev pub heard_by : {c : ℕ} {o : List ℕ} → Flight c o → E.Hearer → Lent → E.Hearer
  heard_by g r lent = E.heard r (whole (frame g) lent)

  abbrev pub hands_by : {c : ℕ} {o : List ℕ} → Flight c o → E.Hearer → Lent → ℕ → List Filed
  hands_by g r lent = E.hands r (whole (frame g) lent)

  -- It is heard, or it changes nothing.
  abbrev pub Either : {c : ℕ} {o : List ℕ} → Flight c o → E.Hearer → Lent → Type 0
  Either g r lent = Heard E g.writer r (frame g) (heard_by g r lent) (hands_by g r lent) ⊎ Unmoved E r (whole (frame g) lent)

  abbrev pub OnAir : ℕ → List (List ℕ) → Type 0
  OnAir c [] = Unit {0}
  OnAir c (o ∷ os) = Flight c o

  abbrev pub Flying : Air → Type 0
  Flying air = (c : ℕ) → OnAir c (air c)

  pub flying-on : (f : Frame) (air : Air) → Flying air → Flight f.channel f.octets → Flying (sending f air)
  unfolding sending
  flying-on f air a g c =
      same f.channel c
      (λ e. rw (eq-eqb f.channel c e) (subst (λ (d : ℕ). Flight d f.octets) e g))
      (λ n. rw (ne_eqb f.channel c n) (a c))

  -- What is sent on the frame's channel, and on another one.
  pub air-on : (f : Frame) (air : Air) (c : ℕ) → f.channel ≡ c → sending f air c ≡ f.octets ∷ []
  unfolding sending
  air-on f air c e = rw (eq-eqb f.channel c e)

  pub air-apart : (f : Frame) (air : Air) (c : ℕ) → (f.channel ≡ c → ⊥) → sending f air c ≡ air c
  unfolding sending
  air-apart f air c n = rw (ne_eqb f.channel c n)

  module _ (facts : Facts E) where
    -- A copy of what is sent arrives.
    pub copy_of : {c : ℕ} {o : List ℕ} (g : Flight c o) (r : E.Hearer) (lent : Lent) → E.SoundHearer r → E.Enough lent
        → Copied E g.writer (frame g) r lent
    copy_of g r lent sr a = facts.copied g.writer r g.last g.call g.kept lent g.sound sr g.goes a

    pub sent-by : {c : ℕ} {o : List ℕ} (g : Flight c o) → Sends E g.writer g.last (E.batch g.call) (frame g) (E.next g.writer g.call)
    sent-by g = facts.sends g.writer g.last g.call g.kept g.sound g.goes

    -- ---- no lane

    module _ (l : ℕ) (no : E.lanes ≤ l) where
      not-sent : {d : ℕ} {o : List ℕ} (g : Flight d o) → (frame g).lane ≡ l → ⊥
      not-sent g e = omega (arith, (sent-by g).lane, e, no)

      no-hands : {d : ℕ} {o : List ℕ} (g : Flight d o) (r : E.Hearer) (lent : Lent) → E.SoundHearer r → E.Enough lent
          → E.SoundHearer (heard_by g r lent) × (hands_by g r lent l ≡ [])
      no-hands g r lent sr a = go (copy_of g r lent sr a).either
        where
          go : Either g r lent → E.SoundHearer (heard_by g r lent) × (hands_by g r lent l ≡ [])
          go (inl h) = (h.sound, h.none l (not-sent g))
          go (inr u) = (subst E.SoundHearer (sym u.state) sr, u.none l)

      pub no_run : (es : Events) (w : E.Writer) (r : E.Hearer) (last : ℕ → List ℕ) (past : List Frame) (air : Air)
          → E.SoundWriter w → E.SoundHearer r → Flying air → Runs w last es → hearing l r (arrivals air (flies w es)) ≡ due l past (sent (flies w es))
      unfolding flies arrivals sent hearing due
      no_run [] w r last past air sw sr fly g = refl
      no_run (Writes x ∷ es) w r last past air sw sr fly g =
          let k : Bool = arrives E.place (E.place x) es in
          let f : Frame = E.frame w x k in
          let now : Flight f.channel f.octets = flight w last x k sw g.0 refl in
          no_run es (E.next w x) r _ (f ∷ past) (sending f air) (facts.sends w last x k sw g.0).sound sr (flying-on f air fly now) g.1
          ∙ ap (λ (us : List Filed). us ++ due l (f ∷ past) (sent (flies (E.next w x) es))) (sym (due-not l f past (not-sent now)))
      no_run (Copy d lent ∷ es) w r last past air sw sr fly g =
          by (air d) (fly d) (λ r' sr'. no_run es w r' last past air sw sr' fly g.1)
        where
          by : (os : List (List ℕ)) → OnAir d os
              → ((r' : E.Hearer) → E.SoundHearer r' → hearing l r' (arrivals air (flies w es)) ≡ due l past (sent (flies w es)))
              → hearing l r (copied os lent ++ arrivals air (flies w es)) ≡ due l past (sent (flies w es))
          by [] q more = more r sr
          by (o ∷ os) q more =
              subst (λ (y : List ℕ). E.hands r (record { octets = y; lent = lent }) l
              ++ hearing l (E.heard r (record { octets = y; lent = lent })) (arrivals air (flies w es)) ≡ due l past (sent (flies w es))) (sym q.octets)
              (let z = no-hands q r lent sr g.0 in
              ap (λ (us : List Filed). us ++ hearing l (E.heard r (whole (frame q) lent)) (arrivals air (flies w es))) z.1
              ∙ more _ z.0)
      no_run (Stray f lent ∷ es) w r last past air sw sr fly g =
          let u : Unmoved E r (record { octets = f; lent = lent }) = facts.unmoved r (record { octets = f; lent = lent }) sr g.0 in
          ap₂ ◌++◌ (u.none l) (ap (λ (y : E.Hearer). hearing l y (arrivals air (flies w es))) u.state) ∙ no_run es w r last past air sw sr fly g.1
