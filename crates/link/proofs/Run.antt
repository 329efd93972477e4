-- A run of any pair of ends, event by event: the induction. For one lane, what arrives is one of these: octets that change nothing; a copy of another
-- channel's frame, which changes nothing for the lane; the first copy of its channel's frame, which hands out what is due; or a further one,
-- which changes nothing. The first copy may come late, after frames of other channels: until then what it will make is known, and owed.
use mathlib.Core.Path.{◌≡◌, refl, sym, ap, ap₂, ◌∙◌, subst}
use mathlib.Core.Logic.{◌⊎◌, inl, inr}
use Prim.Native.Nat.{ℕ, ◌<◌}
use native.Mathlib.Omega.{arith}
use mathlib.Core.Bool.{Bool, true, false, ◌||◌, true≢false, false≢true}
use mathlib.Core.List.{List, [], ◌∷◌, ◌++◌}
use lib.ListN.{length, get_or}
use borrow.Author.Tests.{eq-eqb, ne_eqb}
use Rattle.rules.specs.declared.Expect.{Expect}
use Rattle.rules.specs.Tests.{◌=?◌}
use Rattle.rules.specs.Reading.{missing, expected}
use Rattle.rules.proofs.Tests.{split, same}
use Rattle.link.specs.Link.{Frame, Lent, Writes, Copy, Stray, arrives, sent, Arrival, Air, silence, sending, copied, arrivals, Filed}
use Rattle.link.specs.Due.{due_in, due}
use Rattle.link.specs.Demand.{lending, kept_on, few_gone}
use Rattle.link.proofs.Spans.{held_none}
use Rattle.link.proofs.Ends.{Ends, whole, Sends, Unmoved, Heard, Facts, Fresh}
use Rattle.link.proofs.Flights.{Events, flies, hearing, Runs, Flight, frame, flight, heard_by, hands_by, Either, OnAir, Flying, flying-on, air-on, air-apart, copy_of, sent-by, no_run}
use Rattle.link.proofs.Views.{due-not, due-gone}
use Rattle.link.proofs.Steps.{Knows, known-moved, if-apart, if-gone, few-missed-on, if_kept}

module _ (E : Ends) (facts : Facts E) (l : ℕ) where
  -- ---- what arrives and is nothing to the lane

  record Quiet (r : E.Hearer) (a : Arrival) : Type 0 where
    sound : E.SoundHearer (E.heard r a)
    expect : E.expect (E.heard r a) l ≡ E.expect r l
    held : E.held (E.heard r a) l ≡ E.held r l
    none : E.hands r a l ≡ []

  quiet : (r : E.Hearer) (a : Arrival) → E.SoundHearer r → Unmoved E r a → Quiet r a
  quiet r a sr u =
      record {
        sound = subst E.SoundHearer (sym u.state) sr;
        expect = ap (λ (y : E.Hearer). E.expect y l) u.state;
        held = ap (λ (y : E.Hearer). E.held y l) u.state;
        none = u.none l;
      }

  -- ---- a lane, on the channel c

  module _ (lh : l < E.lanes) where
    abbrev c : ℕ
    c = E.channel l

    -- A copy of another channel's frame.
    quiet-apart : {d : ℕ} {o : List ℕ} (g : Flight E d o) (r : E.Hearer) (lent : Lent) → E.SoundHearer r → E.Enough lent → (d ≡ c → ⊥)
        → Quiet r (whole (frame E g) lent)
    quiet-apart g r lent sr a n = go (copy_of E facts g r lent sr a).either
      where
        apart : (frame E g).channel ≡ c → ⊥
        apart e = n (sym g.on ∙ e)

        other : (frame E g).lane ≡ l → ⊥
        other e = apart ((sent-by E facts g).channel ∙ ap E.channel e)

        go : Either E g r lent → Quiet r (whole (frame E g) lent)
        go (inl h) =
            record { sound = h.sound; expect = h.expect-other l apart; held = h.held-other l lh apart other; none = h.none l other }
        go (inr u) = quiet r (whole (frame E g) lent) sr u

    -- A frame of the channel whose count was the last one taken.
    record Spent (e : Expect) (o : List ℕ) : Type 0 where
      flight : Flight E c o
      spent : e ≡ expected (E.octets l) (E.count flight.writer l)

    -- Copies of what is sent on the channel are nothing to the lane: none comes, or the count was taken.
    abbrev Still : Expect → List (List ℕ) → Bool → Type 0
    Still e [] comes = Unit {0}
    Still e (o ∷ os) comes = (comes ≡ false) ⊎ Spent e o

    abbrev rest : E.Writer → Events E → List Frame
    rest w es = sent (flies E w es)

    -- What is due of the frames sent so far has been handed out. The frames fs are to be sent yet, and whether a copy comes of the last one of the channel
    -- is known.
    record Settled (w : E.Writer) (r : E.Hearer) (last : ℕ → List ℕ) (past fs : List Frame) (will : Bool) (air : Air) (owed : List Filed)
        : Type 0 where
      none : owed ≡ []
      knows : Knows E l w r last past fs
      still : Still (E.expect r l) (air c) will

    -- That frame is still to come: what its read hands out is owed, and what is known then is known.
    record Waiting (w : E.Writer) (r : E.Hearer) (last : ℕ → List ℕ) (past fs : List Frame) (will : Bool) (air : Air) (owed : List Filed)
        : Type 0 where
      comes : will ≡ true
      octets : List ℕ
      sent : air c ≡ octets ∷ []
      flight : Flight E c octets
      new : missing (E.octets l) (E.expect r l) (E.count flight.writer l) < E.bound l
      then : (q q' : E.Hearer) (out : ℕ → List Filed) → E.expect q l ≡ E.expect r l → E.held q l ≡ E.held r l
          → Heard E flight.writer q (frame E flight) q' out → (out l ≡ owed) × Knows E l w q' last past fs

    abbrev Stands : E.Writer → E.Hearer → (ℕ → List ℕ) → List Frame → List Frame → Bool → Air → List Filed → Type 0
    Stands w r last past fs will air owed = Settled w r last past fs will air owed ⊎ Waiting w r last past fs will air owed

    abbrev Status : E.Writer → E.Hearer → (ℕ → List ℕ) → List Frame → Events E → Air → List Filed → Type 0
    Status w r last past es air owed = Stands w r last past (rest w es) (arrives E.place c es) air owed

    -- Knowing it of one reader is knowing it of another that expects and holds the same there.
    status-moved : (w : E.Writer) (r r' : E.Hearer) (last : ℕ → List ℕ) (past fs : List Frame) (will : Bool) (air : Air) (owed : List Filed)
        → E.expect r' l ≡ E.expect r l → E.held r' l ≡ E.held r l → Stands w r last past fs will air owed → Stands w r' last past fs will air owed
    status-moved w r r' last past fs will air owed p q (inl a) =
        inl (record { none = a.none; knows = known-moved E l w r r' last past fs p q a.knows; still = rw p a.still })
    status-moved w r r' last past fs will air owed p q (inr a) =
        inr (record {
          comes = a.comes;
          octets = a.octets;
          sent = a.sent;
          flight = a.flight;
          new = rw p a.new;
          then = λ x x' out e h. a.then x x' out (e ∙ p) (h ∙ q);
        })

    -- ---- the three kinds of events

    abbrev Says : E.Writer → E.Hearer → List Frame → Events E → Air → List Filed → Type 0
    Says w r past es air owed = hearing E l r (arrivals air (flies E w es)) ≡ owed ++ due l past (rest w es)

    module _ (w : E.Writer) (r : E.Hearer) (last : ℕ → List ℕ) (past : List Frame) (es : Events E) (air : Air) (owed : List Filed)
        (sr : E.SoundHearer r) where
      -- Octets that change nothing.
      on-stray : (f : List ℕ) (lent : Lent) → E.Inert (record { octets = f; lent = lent }) → Says w r past es air owed
          → Says w r past (Stray f lent ∷ es) air owed
      unfolding flies arrivals sent hearing
      on-stray f lent q more =
          let u : Unmoved E r (record { octets = f; lent = lent }) = facts.unmoved r (record { octets = f; lent = lent }) sr q in
          ap₂ ◌++◌ (u.none l) (ap (λ (y : E.Hearer). hearing E l y (arrivals air (flies E w es))) u.state) ∙ more

      -- A copy of what is sent on channel d.
      module _ (d : ℕ) (lent : Lent) (enough : E.Enough lent) (fly : Flying E air)
          (more : (r' : E.Hearer) (owed' : List Filed) → E.SoundHearer r' → Status w r' last past es air owed' → Says w r' past es air owed') where
        -- A copy of these octets, and then all that arrives later.
        abbrev copy_here : List ℕ → Arrival
        copy_here o = record { octets = o; lent = lent }

        abbrev Told : List ℕ → Type 0
        Told o = E.hands r (copy_here o) l ++ hearing E l (E.heard r (copy_here o)) (arrivals air (flies E w es)) ≡ owed ++ due l past (rest w es)

        -- It is nothing to the lane.
        on_quiet : (o : List ℕ) → Quiet r (copy_here o) → Status w r last past es air owed → Told o
        on_quiet o q st =
            ap (λ (us : List Filed). us ++ hearing E l (E.heard r (copy_here o)) (arrivals air (flies E w es))) q.none
            ∙ more (E.heard r (copy_here o)) owed q.sound (status-moved w r _ last past (rest w es) _ air owed q.expect q.held st)

        -- Channel d is another one.
        off : (d ≡ c → ⊥) → Status w r last past (Copy d lent ∷ es) air owed → Status w r last past es air owed
        unfolding flies sent arrives
        off n st = rw (ne_eqb d c n) at st

        -- Nothing is sent there as yet.
        on_none : air d ≡ [] → Status w r last past (Copy d lent ∷ es) air owed → Status w r last past es air owed
        unfolding flies sent arrives
        on_none q st = same d c (λ e. here (rw e at q) st) (λ n. off n st)
          where
            nothing : (x : List ℕ) → [] ≡ x ∷ [] → ⊥
            nothing x e = let n : ◌≡◌ {A = ℕ} 0 1 = ap length e in omega (arith, n)

            here : air c ≡ [] → Status w r last past (Copy d lent ∷ es) air owed → Status w r last past es air owed
            here z (inl a) = inl (record { none = a.none; knows = a.knows; still = rw z tt })
            here z (inr a) = absurd (nothing a.octets (sym z ∙ a.sent))

        -- It is the lane's own channel: a further copy, or the one that was waited for.
        on-own : (o : List ℕ) (os : List (List ℕ)) → air c ≡ o ∷ os → d ≡ c → Status w r last past (Copy d lent ∷ es) air owed → Told o
        unfolding flies sent arrives
        on-own o os q e (inl a) = by (rw (q, eq-eqb d c e) at a.still)
          where
            by : ((true || arrives E.place c es) ≡ false) ⊎ Spent (E.expect r l) o → Told o
            by (inl z) = absurd (true≢false z)
            by (inr g) =
                let u : Unmoved E r (whole (frame E g.flight) lent) =
                (copy_of E facts g.flight r lent sr enough).again l lh g.flight.on g.spent in
                on_quiet o (subst (λ (x : List ℕ). Quiet r (copy_here x)) (sym g.flight.octets) (quiet r _ sr u))
                (inl (record { none = a.none; knows = a.knows; still = rw q (inr g) }))
        on-own o os q e (inr a) =
            subst Told (sym a.flight.octets ∙ same-octets)
            (ap₂ ◌++◌ done.0 (more _ [] h.sound (inl (record { none = refl; knows = done.1; still = spent }))))
          where
            h : Heard E a.flight.writer r (frame E a.flight) (heard_by E a.flight r lent) (hands_by E a.flight r lent)
            h = (copy_of E facts a.flight r lent sr enough).new l lh a.flight.on a.new

            done : (hands_by E a.flight r lent l ≡ owed) × Knows E l w (heard_by E a.flight r lent) last past (rest w es)
            done = a.then r (heard_by E a.flight r lent) (hands_by E a.flight r lent) refl refl h

            same-octets : a.octets ≡ o
            same-octets = ap (λ (xs : List (List ℕ)). get_or xs 0 []) (sym a.sent ∙ q)

            spent : Still (E.expect (heard_by E a.flight r lent) l) (air c) (arrives E.place c es)
            spent = rw a.sent (inr (record { flight = a.flight; spent = h.expect-on l lh a.flight.on }))

        on-copy : Status w r last past (Copy d lent ∷ es) air owed → Says w r past (Copy d lent ∷ es) air owed
        unfolding flies arrivals sent hearing
        on-copy st = go (air d) refl (fly d)
          where
            go : (os : List (List ℕ)) → air d ≡ os → OnAir E d os
                → hearing E l r (copied os lent ++ arrivals air (flies E w es)) ≡ owed ++ due l past (rest w es)
            go [] q g = more r owed sr (on_none q st)
            go (o ∷ os) q g =
                same d c
                (λ e. on-own o os (rw e at q) e st)
                (λ n. on_quiet o (subst (λ (x : List ℕ). Quiet r (copy_here x)) (sym g.octets) (quiet-apart g r lent sr enough n)) (off n st))

    -- A call.
    module _ (w : E.Writer) (r : E.Hearer) (last : ℕ → List ℕ) (past : List Frame) (x : E.Call) (es : Events E) (air : Air) (owed : List Filed)
        (sw : E.SoundWriter w) (go : E.Goes w last x) where
      abbrev coming : Bool
      coming = arrives E.place (E.place x) es

      abbrev f : Frame
      f = E.frame w x coming

      abbrev w' : E.Writer
      w' = E.next w x

      abbrev last' : ℕ → List ℕ
      last' = lending f.lane (E.batch x) last

      k : Sends E w last (E.batch x) f w'
      k = facts.sends w last x coming sw go

      -- A frame of another channel.
      write-apart : (f.channel ≡ c → ⊥) → Status w r last past (Writes x ∷ es) air owed → Status w' r last' (f ∷ past) es (sending f air) owed
      unfolding flies sent arrives
      write-apart n st = by (ne_eqb (E.place x) c (λ e. n (facts.place w x coming ∙ e))) (air-apart E f air c n) st
        where
          knows : (q : E.Hearer) → Knows E l w q last past (f ∷ rest w' es) → Knows E l w' q last' (f ∷ past) (rest w' es)
          knows q i = if-apart E w q last (E.batch x) f w' k past (rest w' es) l n i

          by : E.place x =? c ≡ false → sending f air c ≡ air c → Status w r last past (Writes x ∷ es) air owed
              → Status w' r last' (f ∷ past) es (sending f air) owed
          by p q (inl a) = inl (record { none = a.none; knows = knows r a.knows; still = rw q (rw p at a.still) })
          by p q (inr a) =
              inr (record {
                comes = rw p at a.comes;
                octets = a.octets;
                sent = q ∙ a.sent;
                flight = a.flight;
                new = a.new;
                then = λ y y' out e h i. let d = a.then y y' out e h i in (d.0, knows y' d.1);
              })

      -- A frame of the lane's channel: all before it is settled, and it is gone for good, or to come.
      write-on : f.channel ≡ c → Status w r last past (Writes x ∷ es) air owed
          → (owed ≡ []) × Status w' r last' (f ∷ past) es (sending f air) (due_in l f past)
      unfolding flies sent arrives
      write-on e st = by (sym (facts.place w x coming) ∙ e) st
        where
          by : E.place x ≡ c → Status w r last past (Writes x ∷ es) air owed
              → (owed ≡ []) × Status w' r last' (f ∷ past) es (sending f air) (due_in l f past)
          by p (inr a) = absurd (false≢true (rw (eq-eqb (E.place x) c p) at a.comes))
          by p (inl a) = (a.none, which coming refl)
            where
              comes-now : arrives E.place c es ≡ coming
              comes-now = ap (λ (d : ℕ). arrives E.place d es) (sym p)

              which : (t : Bool) → coming ≡ t → Status w' r last' (f ∷ past) es (sending f air) (due_in l f past)
              which false t =
                  let gone : f.kept ≡ false = facts.kept w x coming ∙ t in
                  inl (record {
                    none = due-gone l f past gone;
                    knows = if-gone E w r last (E.batch x) f w' k past (rest w' es) l lh e gone a.knows;
                    still = rw (air-on E f air c e) (inl (comes-now ∙ t));
                  })
              which true t =
                  let kept : f.kept ≡ true = facts.kept w x coming ∙ t in
                  inr (record {
                    comes = comes-now ∙ t;
                    octets = f.octets;
                    sent = air-on E f air c e;
                    flight = flight E w last x coming sw go e;
                    new = few-missed-on E w r last (E.batch x) f w' k past (rest w' es) facts.bounded kept l lh e a.knows;
                    then = λ y y' out p q h.
                        if_kept E w y last (E.batch x) f w' k past (rest w' es) facts.bounded kept y' out h l lh e
                        (known-moved E l w r y last past (f ∷ rest w' es) p q a.knows);
                  })

      on-write : Flying E air → ((owed' : List Filed) → Flying E (sending f air) → Status w' r last' (f ∷ past) es (sending f air) owed'
          → Says w' r (f ∷ past) es (sending f air) owed') → Status w r last past (Writes x ∷ es) air owed → Says w r past (Writes x ∷ es) air owed
      unfolding flies arrivals sent due
      on-write fly more st =
          same f.channel c
          (λ e.
          let d = write-on e st in
          more (due_in l f past) flown d.1
          ∙ ap (λ (us : List Filed). us ++ (due_in l f past ++ due l (f ∷ past) (rest w' es))) (sym d.0))
          (λ n.
          let other : f.lane ≡ l → ⊥ = λ (e : f.lane ≡ l). n (k.channel ∙ ap E.channel e) in
          more owed flown (write-apart n st)
          ∙ ap (λ (us : List Filed). owed ++ (us ++ due l (f ∷ past) (rest w' es))) (sym (due-not l f past other)))
        where
          flown : Flying E (sending f air)
          flown = flying-on E f air fly (flight E w last x coming sw go refl)

    -- ---- all events

    run : (es : Events E) (w : E.Writer) (r : E.Hearer) (last : ℕ → List ℕ) (past : List Frame) (air : Air) (owed : List Filed)
        → E.SoundWriter w → E.SoundHearer r → Flying E air → Runs E w last es → Status w r last past es air owed → Says w r past es air owed
    unfolding flies arrivals sent hearing due
    run [] w r last past air owed sw sr fly g (inl a) = sym (ap (λ (us : List Filed). us ++ []) a.none)
    run [] w r last past air owed sw sr fly g (inr a) = unfold arrives in absurd (false≢true a.comes)
    run (Writes x ∷ es) w r last past air owed sw sr fly g st =
        on-write w r last past x es air owed sw g.0 fly
        (λ owed' fly' st'. run es _ r _ _ _ owed' (facts.sends w last x true sw g.0).sound sr fly' g.1 st') st
    run (Copy d lent ∷ es) w r last past air owed sw sr fly g st =
        on-copy w r last past es air owed sr d lent g.0 fly (λ r' owed' sr' st'. run es w r' last past air owed' sw sr' fly g.1 st') st
    run (Stray o lent ∷ es) w r last past air owed sw sr fly g st =
        on-stray w r last past es air owed sr o lent g.0 (run es w r last past air owed sw sr fly g.1 (unfold arrives in st))

  -- ---- from fresh ends, with fewer gone between two kept frames of the lane's channel than the bound

  pub from-fresh : (es : Events E) (w : E.Writer) (r : E.Hearer) (last : ℕ → List ℕ) → Fresh E w r → Runs E w last es
      → (l < E.lanes → few_gone (E.bound l) false 0 (kept_on (E.channel l) (sent (flies E w es))) ≡ true)
      → hearing E l r (arrivals silence (flies E w es)) ≡ due l [] (sent (flies E w es))
  from-fresh es w r last new g few =
      split E.lanes l
      (λ no. no_run E facts l no es w r last [] silence new.writer new.hearer (λ c. tt) g)
      (λ lh.
      run lh es w r last [] silence [] new.writer new.hearer (λ c. tt) g
      (inl (record {
        none = refl;
        knows =
            record {
              j = 0;
              gone = 0;
              any = false;
              since = omega arith;
              wholly = λ i b. absurd (omega (arith, new.start l (last l)));
              known = new.unknown l lh;
              below = new.below l lh;
              count = λ a. absurd (false≢true a);
              held = λ a. new.held l lh ∙ sym (held_none 0 _ 0 _ (E.units l (last l)) (omega (arith, new.start l (last l))));
              fresh = λ a. new.held l lh;
              lost = λ b. absurd (b refl);
              few = few lh;
            };
        still = tt;
      })))
