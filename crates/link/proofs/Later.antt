-- What a lane is due where its channel loses no frame from the begin of a batch on: no frame back to where a unit begins is gone, so every
-- unit that ends is due; and where the lane ends between batches, each batch's units have ended, once and in order.
use mathlib.Core.Path.{◌≡◌, refl, sym, ap, ap₂, ◌∙◌, subst}
use mathlib.Core.Logic.{◌⊎◌, inl, inr}
use Prim.Native.Nat.{ℕ, ◌<◌}
use native.Mathlib.Omega.{arith}
use mathlib.Core.Bool.{Bool, true, cond}
use mathlib.Core.List.{List, [], ◌∷◌, ◌++◌, append_assoc, map-append}
use borrow.Author.Tests.{ne_eqb, eq-eqb}
use Rattle.rules.specs.Tests.{◌=?◌}
use Rattle.rules.proofs.Tests.{split, same, and_left, and_right}
use Rattle.link.specs.Link.{Frame, Writes, Copy, Stray, arrives, sent, Filed, octets_in}
use Rattle.link.specs.Due.{ending, none_gone, clean, due_in, due}
use Rattle.link.specs.Demand.{lending}
use Rattle.link.specs.Corollaries.{begun_in, ended_in, units_sent, units_ended}
use Rattle.link.proofs.Spans.{Filled, ends-map, Follows}
use Rattle.link.proofs.Once.{ends_in, ends_on, ends_nowhere, ends-all}
use Rattle.link.proofs.Ends.{Ends, Sends, start-own, units-own, start-same, units-same, Facts}
use Rattle.link.proofs.Views.{Safe, clean-other, clean-now, clean-before, due-not}
use Rattle.link.proofs.Flights.{Events, flies, after, Runs}

octets_on : (us vs : List Filed) → octets_in (us ++ vs) ≡ octets_in us ++ octets_in vs
octets_on us vs = map-append (λ (u : Filed). u.octets) us vs

-- ---- the frames of one batch

-- Of units so far as octet n: with what ends and what begins later, all has ended that began.
abbrev Even : ℕ → List (List ℕ) → List (List ℕ) → List (List ℕ) → Type 0
Even n us e b = ends_in 0 n 0 us ++ e ≡ cond (n =? 0) [] us ++ b

even_in : (m n : ℕ) (us vs e b : List (List ℕ)) → m ≡ n → us ≡ vs → Even m us e b → Even n vs e b
even_in m n us vs e b p q h = subst (λ (i : ℕ). Even i vs e b) p (subst (λ (ws : List (List ℕ)). Even m ws e b) q h)

-- Between batches: what ends later is what begins later.
even_zero : (n : ℕ) (us e b : List (List ℕ)) → n ≡ 0 → Even n us e b → e ≡ b
even_zero n us e b q h = ap (λ (vs : List (List ℕ)). vs ++ e) (sym (ends_nowhere 0 us 0)) ∙ even_in n 0 us us e b q refl h

-- A frame ends its units, and the last frame the last of them.
all_end : (us last : List (List ℕ)) (start stop next : ℕ) → Filled us → start < stop → (start ≡ 0) ⊎ (us ≡ last) → Follows us stop next
    → (e b : List (List ℕ)) → Even next us e b → Even start last (ends_in start stop 0 us ++ e) (cond (start =? 0) us [] ++ b)
all_end us last start stop next full on turn then e b h =
    ap (λ (vs : List (List ℕ)). vs ++ (ends_in start stop 0 us ++ e)) (turned turn) ∙ sym (append_assoc (ends_in 0 start 0 us) (ends_in start stop 0 us) e)
    ∙ ap (λ (vs : List (List ℕ)). vs ++ e) (ends_on 0 start stop (omega arith) (omega arith) us 0) ∙ onwards then
    ∙ same start 0 (λ q. sym (ap parts (eq-eqb start 0 q))) (λ q. ap (λ (vs : List (List ℕ)). vs ++ b) (other turn q) ∙ sym (ap parts (ne_eqb start 0 q)))
  where
    parts : Bool → List (List ℕ)
    parts t = cond t [] last ++ (cond t us [] ++ b)

    turned : (start ≡ 0) ⊎ (us ≡ last) → ends_in 0 start 0 last ≡ ends_in 0 start 0 us
    turned (inl q) = ap (λ (n : ℕ). ends_in 0 n 0 last) q ∙ ends_nowhere 0 last 0 ∙ sym (ap (λ (n : ℕ). ends_in 0 n 0 us) q ∙ ends_nowhere 0 us 0)
    turned (inr q) = ap (ends_in 0 start 0) (sym q)

    other : (start ≡ 0) ⊎ (us ≡ last) → (start ≡ 0 → ⊥) → us ≡ last
    other (inl q) n = absurd (n q)
    other (inr q) n = q

    onwards : Follows us stop next → ends_in 0 stop 0 us ++ e ≡ us ++ b
    onwards (inl q) = even_in next stop us us e b q refl h ∙ ap (λ (t : Bool). cond t [] us ++ b) (ne_eqb stop 0 (λ p. omega arith))
    onwards (inr q) = ap₂ ◌++◌ (ends-all stop us 0 full (omega (arith, q.1))) (even_zero next us e b q.0 h)

module _ (E : Ends) where
  -- ---- one call, as lane l sees it

  -- The frames of its batch so far are clean.
  abbrev Clean : ℕ → E.Writer → (ℕ → List ℕ) → List Frame → Type 0
  Clean l w last past = (a : ℕ) → a < E.start w l (last l) → clean l (E.channel l) past a ≡ true

  abbrev EvenAt : ℕ → E.Writer → (ℕ → List ℕ) → List (List ℕ) → List (List ℕ) → Type 0
  EvenAt l w last e b = Even (E.start w l (last l)) (E.units l (last l)) e b

  module _ (w : E.Writer) (last : ℕ → List ℕ) (batch : List ℕ) (f : Frame) (w' : E.Writer) (k : Sends E w last batch f w') where
    abbrev last' : ℕ → List ℕ
    last' = lending f.lane batch last

    even-own : (e b : List (List ℕ)) → EvenAt f.lane w' last' e b → EvenAt f.lane w last (ended_in f.lane f ++ e) (begun_in f.lane f ++ b)
    even-own e b h =
        rw (eq-eqb f.lane f.lane refl)
        (even_in _ _ _ _ _ _ (sym k.starts) refl
        (all_end f.units (E.units f.lane (last f.lane)) f.start f.stop (E.start w' f.lane batch) k.filled k.some k.turn
        k.follows e b
        (even_in _ _ _ _ e b (start-own E w last batch f w' k) (units-own E w last batch f w' k) h)))

    even_step : (l : ℕ) (e b : List (List ℕ)) → EvenAt l w' last' e b → EvenAt l w last (ended_in l f ++ e) (begun_in l f ++ b)
    even_step l e b h =
        same f.lane l
        (λ q. subst (λ (i : ℕ). EvenAt i w' last' e b → EvenAt i w last (ended_in i f ++ e) (begun_in i f ++ b)) q (even-own e b) h)
        (λ n.
        rw (ne_eqb f.lane l n) (even_in _ _ _ _ e b (start-same E w last batch f w' k l n) (units-same E w last batch f w' k l n) h))

    -- The frame is none of the lane's channel that is gone: what is due in it is what ends in it.
    module _ (past : List Frame) where
      clean-own : Safe f.lane (E.channel f.lane) f past → Clean f.lane w last past
          → (a : ℕ) → clean f.lane (E.channel f.lane) (f ∷ past) a ≡ true
      clean-own q h a =
          split f.start a (clean-now f.lane (E.channel f.lane) f past q refl a)
          (λ b. clean-before f.lane (E.channel f.lane) f past q refl a b ∙ h a (omega (arith, k.starts)))

      own-ended : ((a : ℕ) → clean f.lane (E.channel f.lane) (f ∷ past) a ≡ true) → octets_in (due_in f.lane f past) ≡ ended_in f.lane f
      unfolding due_in
      own-ended h =
          rw (eq-eqb f.lane f.lane refl)
          (ends-map f.start f.stop (clean f.lane f.channel (f ∷ past)) _ (λ (u : Filed). u.octets) 0 f.units
          ∙ ap (λ (d : ℕ). ending f.start f.stop (clean f.lane d (f ∷ past)) (λ (a : ℕ) (u : List ℕ). u) 0 f.units) k.channel
          ∙ ap (λ (p : ℕ → Bool). ending f.start f.stop p (λ (a : ℕ) (u : List ℕ). u) 0 f.units) (λ t a. (h a) t))

      due-step : (l : ℕ) → Safe l (E.channel l) f past → Clean l w last past → (octets_in (due_in l f past) ≡ ended_in l f) × Clean l w' last' (f ∷ past)
      due-step l q h =
          same f.lane l
          (λ e.
          subst (λ (i : ℕ). Safe i (E.channel i) f past → Clean i w last past → (octets_in (due_in i f past) ≡ ended_in i f) × Clean i w' last' (f ∷ past)) e
          (λ q h. (own-ended (clean-own q h), λ a b. clean-own q h a)) q h)
          (λ n. (
            ap octets_in (due-not l f past n) ∙ sym (rw (ne_eqb f.lane l n)),
            λ a b. clean-other l (E.channel l) f past q n a ∙ h a (subst (λ (m : ℕ). a < m) (start-same E w last batch f w' k l n) b),
          ))

  -- The lane stands between batches: whatever batch comes, its next frame starts with it.
  abbrev pub Begins : ℕ → E.Writer → Type 0
  Begins l w = (b : List ℕ) → E.start w l b ≡ 0

  -- ---- the events

  -- The frames of the events xs, which ys follow.
  unfoldable pub wrote_before : E.Writer → Events E → Events E → List Frame
  wrote_before w [] ys = []
  wrote_before w (Writes x ∷ xs) ys = E.frame w x (arrives E.place (E.place x) (xs ++ ys)) ∷ wrote_before (E.next w x) xs ys
  wrote_before w (Copy c lent ∷ xs) ys = wrote_before w xs ys
  wrote_before w (Stray f lent ∷ xs) ys = wrote_before w xs ys

  module _ (facts : Facts E) (l : ℕ) where
    -- No frame of the channel is gone: every unit that ends is due.
    all-due : (es : Events E) (w : E.Writer) (last : ℕ → List ℕ) (past : List Frame) → E.SoundWriter w → Runs E w last es
        → Clean l w last past → none_gone (E.channel l) (sent (flies E w es)) ≡ true → octets_in (due l past (sent (flies E w es)))
        ≡ units_ended l (sent (flies E w es))
    unfolding flies sent due units_ended none_gone
    all-due [] w last past s g h q = refl
    all-due (Writes x ∷ es) w last past s g h q =
        let f : Frame = E.frame w x (arrives E.place (E.place x) es) in
        let k : Sends E w last (E.batch x) f (E.next w x) = facts.sends w last x _ s g.0 in
        let d = due-step w last (E.batch x) f (E.next w x) k past l (and_left _ _ q) h in
        octets_on (due_in l f past) _
        ∙ ap₂ ◌++◌ d.0
        (all-due es (E.next w x) _ (f ∷ past) k.sound g.1 d.1 (and_right (cond (f.channel =? E.channel l) f.kept true) _ q))
    all-due (Copy c lent ∷ es) w last past s g h q = all-due es w last past s g.1 h q
    all-due (Stray o lent ∷ es) w last past s g h q = all-due es w last past s g.1 h q

    -- The lane stands between batches afterwards: all that began has ended.
    all-ended : (es : Events E) (w : E.Writer) (last : ℕ → List ℕ) → E.SoundWriter w → Runs E w last es
        → Begins l (after E w es) → EvenAt l w last (units_ended l (sent (flies E w es))) (units_sent l (sent (flies E w es)))
    unfolding flies sent units_ended units_sent after
    all-ended [] w last s g e =
        even_in 0 _ (E.units l (last l)) _ [] [] (sym (e (last l))) refl (ap (λ (us : List (List ℕ)). us ++ []) (ends_nowhere 0 (E.units l (last l)) 0))
    all-ended (Writes x ∷ es) w last s g e =
        let f : Frame = E.frame w x (arrives E.place (E.place x) es) in
        let k : Sends E w last (E.batch x) f (E.next w x) = facts.sends w last x _ s g.0 in
        even_step w last (E.batch x) f (E.next w x) k l _ _ (all-ended es (E.next w x) _ k.sound g.1 e)
    all-ended (Copy c lent ∷ es) w last s g e = all-ended es w last s g.1 e
    all-ended (Stray o lent ∷ es) w last s g e = all-ended es w last s g.1 e

    -- After the events xs the lane stands between batches: of the events ys all that ends is due, if no frame of the channel is gone; and all that
    -- begins ends, if it stands there after them too.
    pub later-due : (xs ys : Events E) (w : E.Writer) (last : ℕ → List ℕ) (past : List Frame) → E.SoundWriter w
        → Runs E w last (xs ++ ys) → Begins l (after E w xs) → none_gone (E.channel l) (sent (flies E (after E w xs) ys)) ≡ true
        → octets_in (due l past (sent (flies E w (xs ++ ys))))
        ≡ octets_in (due l past (wrote_before w xs ys)) ++ units_ended l (sent (flies E (after E w xs) ys))
    unfolding flies sent after due wrote_before
    later-due [] ys w last past s g b n = all-due ys w last past s g (λ a h. absurd (omega (arith, b (last l)))) n
    later-due (Writes x ∷ xs) ys w last past s g b n =
        let f : Frame = E.frame w x (arrives E.place (E.place x) (xs ++ ys)) in
        octets_on (due_in l f past) _
        ∙ ap (λ (us : List (List ℕ)). octets_in (due_in l f past) ++ us)
        (later-due xs ys (E.next w x) _ (f ∷ past) (facts.sends w last x true s g.0).sound g.1 b n)
        ∙ sym (append_assoc (octets_in (due_in l f past)) _ _)
        ∙ ap (λ (us : List (List ℕ)). us ++ units_ended l (sent (flies E (after E (E.next w x) xs) ys))) (sym (octets_on (due_in l f past) _))
    later-due (Copy c lent ∷ xs) ys w last past s g b n = later-due xs ys w last past s g.1 b n
    later-due (Stray o lent ∷ xs) ys w last past s g b n = later-due xs ys w last past s g.1 b n

    pub later-units : (xs ys : Events E) (w : E.Writer) (last : ℕ → List ℕ) → E.SoundWriter w → Runs E w last (xs ++ ys)
        → Begins l (after E w xs) → Begins l (after E w (xs ++ ys))
        → units_ended l (sent (flies E (after E w xs) ys)) ≡ units_sent l (sent (flies E (after E w xs) ys))
    unfolding after
    later-units [] ys w last s g b e = even_zero (E.start w l (last l)) (E.units l (last l)) _ _ (b (last l)) (all-ended ys w last s g e)
    later-units (Writes x ∷ xs) ys w last s g b e = later-units xs ys (E.next w x) _ (facts.sends w last x true s g.0).sound g.1 b e
    later-units (Copy c lent ∷ xs) ys w last s g b e = later-units xs ys w last s g.1 b e
    later-units (Stray o lent ∷ xs) ys w last s g b e = later-units xs ys w last s g.1 b e
