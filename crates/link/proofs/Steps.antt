-- One call and its frame's passage, as a lane sees them: the lane's invariant is handed on, and what is handed out is due.
use mathlib.Core.Path.{◌≡◌, refl, sym, ap, ◌∙◌, subst}
use Prim.Native.Nat.{ℕ, ◌≤◌, ◌<◌}
use native.Mathlib.Omega.{arith}
use mathlib.Core.Bool.{Bool, true, false}
use mathlib.Core.List.{List, ◌∷◌, map}
use borrow.Author.Tests.{eq-eqb}
use Rattle.rules.specs.declared.Expect.{Expect}
use Rattle.rules.specs.Reading.{missing, DataUnit}
use Rattle.rules.proofs.Tests.{same}
use Rattle.link.specs.Link.{Frame, Filed}
use Rattle.link.specs.Due.{ending, clean, span_back, due_in}
use Rattle.link.specs.Demand.{lending, kept_on}
use Rattle.link.proofs.Spans.{spanned, ends-map}
use Rattle.link.proofs.Invariant.{View, Inv, inv-other, inv-gone, few-missed, inv-beside, units-due, inv-next}
use Rattle.link.proofs.Ends.{Ends, filed, Sends, start-own, units-own, start-same, units-same, Heard, Bounded}
use Rattle.link.proofs.Views.{clean-gone, Safe, safe-kept, safe-apart, clean-other, clean-now, clean-before, span-other, span-own, due-not, flags_on, flags_off}

-- What is known of a view is known of its parts.
moved : {n m : ℕ} {whole : ℕ → Bool} {spans : ℕ → ℕ} {flags : List Bool} {a a' b b' : ℕ} {c c' : Expect} {d d' : DataUnit} {e e' : List (List ℕ)}
    → a' ≡ a → b' ≡ b → c' ≡ c → d' ≡ d → e' ≡ e
    → Inv n m (record { start = a; count = b; expect = c; hold = d; units = e }) whole spans flags
    → Inv n m (record { start = a'; count = b'; expect = c'; hold = d'; units = e' }) whole spans flags
moved {n} {m} {whole} {spans} {flags} p q r t u i =
    subst (λ (v : View). Inv n m v whole spans flags)
    (λ y. record { start = (sym p) y; count = (sym q) y; expect = (sym r) y; hold = (sym t) y; units = (sym u) y }) i

module _ (E : Ends) where
  -- ---- what is known of a lane

  -- Lane l's view of both ends, with the batches that lanes last lent.
  abbrev pub view : ℕ → E.Writer → E.Hearer → (ℕ → List ℕ) → View
  view l w r last =
      record { start = E.start w l (last l); count = E.count w l; expect = E.expect r l; hold = E.held r l; units = E.units l (last l) }

  -- The invariant, after the frames of the past and with those that are to come.
  abbrev pub Knows : ℕ → E.Writer → E.Hearer → (ℕ → List ℕ) → List Frame → List Frame → Type 0
  Knows l w r last past rest =
      Inv (E.octets l) (E.bound l) (view l w r last) (clean l (E.channel l) past) (span_back l past) (kept_on (E.channel l) rest)

  -- Of a reader that expects and holds the same there.
  pub known-moved : (l : ℕ) (w : E.Writer) (r r' : E.Hearer) (last : ℕ → List ℕ) (past rest : List Frame) → E.expect r' l ≡ E.expect r l
      → E.held r' l ≡ E.held r l → Knows l w r last past rest → Knows l w r' last past rest
  known-moved l w r r' last past rest p q i = moved refl refl p q refl i

  -- ---- a call that lends b and writes f, after which the writer is w'

  module _ (w : E.Writer) (r : E.Hearer) (last : ℕ → List ℕ) (b : List ℕ) (f : Frame) (w' : E.Writer) (k : Sends E w last b f w')
      (past rest : List Frame) where
    abbrev last' : ℕ → List ℕ
    last' = lending f.lane b last

    module _ (l : ℕ) where
      abbrev c : ℕ
      c = E.channel l

      abbrev whole : ℕ → Bool
      whole = clean l c past

      abbrev whole' : ℕ → Bool
      whole' = clean l c (f ∷ past)

      abbrev spans : ℕ → ℕ
      spans = span_back l past

      abbrev spans' : ℕ → ℕ
      spans' = span_back l (f ∷ past)

      abbrev flags : List Bool
      flags = kept_on c rest

      -- A lane of another channel is another lane.
      apart : (f.channel ≡ c → ⊥) → f.lane ≡ l → ⊥
      apart n e = n (k.channel ∙ ap E.channel e)

      -- It is another channel's: whatever becomes of the frame, nothing is new to the lane.
      pub if-apart : (f.channel ≡ c → ⊥) → Knows l w r last past (f ∷ rest) → Knows l w' r last' (f ∷ past) rest
      if-apart n i =
          moved (start-same E w last b f w' k l (apart n)) (k.count-other l n) refl refl (units-same E w last b f w' k l (apart n))
          (inv-other _ _ (view l w r last) whole whole' spans spans' flags (clean-other l c f past (safe-apart l c f past n) (apart n))
          (span-other l f past (apart n))
          (subst (Inv (E.octets l) (E.bound l) (view l w r last) whole spans) (flags_off c f rest n) i))

      -- It is the channel's, and gone.
      pub if-gone : l < E.lanes → f.channel ≡ c → f.kept ≡ false → Knows l w r last past (f ∷ rest) → Knows l w' r last' (f ∷ past) rest
      if-gone lh e q i =
          moved refl (k.count-on l lh e) refl refl refl
          (inv-gone _ _ (view l w r last) whole whole' spans spans' flags (E.start w' l (last' l)) (E.units l (last' l)) (clean-gone l c f past e q)
          (subst (Inv (E.octets l) (E.bound l) (view l w r last) whole spans) (flags_on c f rest false e q) i))

    -- ---- it is the channel's, and kept

    module _ (bounded : Bounded E) (q : f.kept ≡ true) where
      -- The reader misses fewer than the bound.
      pub few-missed-on : (l : ℕ) → l < E.lanes → f.channel ≡ c l → Knows l w r last past (f ∷ rest)
          → missing (E.octets l) (E.expect r l) (E.count w l) < E.bound l
      few-missed-on l lh e i =
          few-missed _ _ (bounded l lh).0 (bounded l lh).1 (view l w r last) (whole l) (spans l) (flags l)
          (subst (Inv (E.octets l) (E.bound l) (view l w r last) (whole l) (spans l)) (flags_on (c l) f rest true e q) i)

      -- ---- the reader after its read is r'

      module _ (r' : E.Hearer) (out : ℕ → List Filed) (h : Heard E w r f r' out) where
        -- It is another lane's.
        if-beside : (l : ℕ) → l < E.lanes → f.channel ≡ c l → (f.lane ≡ l → ⊥) → Knows l w r last past (f ∷ rest)
            → Knows l w' r' last' (f ∷ past) rest
        if-beside l lh e n i =
            moved (start-same E w last b f w' k l n) (k.count-on l lh e) (h.expect-on l lh e) (h.held-beside l lh e n)
            (units-same E w last b f w' k l n)
            (inv-beside _ _ (bounded l lh).0 (bounded l lh).1 (view l w r last) (whole l) (spans l) (flags l)
            (subst (Inv (E.octets l) (E.bound l) (view l w r last) (whole l) (spans l)) (flags_on (c l) f rest true e q) i) (whole' l) (spans' l)
            (clean-other l (c l) f past (safe-kept l (c l) f past q) n) (span-other l f past n))

        -- It is the lane's own.
        module _ (i : Knows f.lane w r last past (f ∷ rest)) where
          abbrev own : ℕ
          own = f.lane

          abbrev v : View
          v = record { start = f.start; count = E.count w own; expect = E.expect r own; hold = E.held r own; units = E.units own (last own) }

          known : Inv (E.octets own) (E.bound own) v (whole own) (spans own) (true ∷ flags own)
          known =
              subst (Inv (E.octets own) (E.bound own) v (whole own) (spans own)) (flags_on (c own) f rest true k.channel q)
              (moved (sym k.starts) refl refl refl refl i)

          safe : Safe own (c own) f past
          safe = safe-kept own (c own) f past q

          on : f.start ≤ f.stop
          on = omega (arith, k.some)

          now : (a : ℕ) → f.start ≤ a → whole' own a ≡ true
          now a = clean-now own (c own) f past safe refl a

          else : (a : ℕ) → a < f.start → whole' own a ≡ whole own a
          else a = clean-before own (c own) f past safe refl a

          own-due : out own ≡ due_in own f past
          unfolding due_in
          own-due =
              h.files
              ∙ ap (map (filed f.count))
              (units-due _ _ (bounded own k.lane).0 (bounded own k.lane).1 v (whole own) (spans own) (flags own) known f.units k.turn f.stop
              on _ h.delivers (whole' own) now else (spans' own) (span-own own f past refl))
              ∙ ends-map f.start f.stop (whole' own) (spanned (spans' own)) (filed f.count) 0 f.units
              ∙ ap (λ (d : ℕ). ending f.start f.stop (clean own d (f ∷ past))
              (λ (a : ℕ) (u : List ℕ). record { octets = u; count = f.count; span = spans' own a }) 0 f.units) (sym k.channel)
              ∙ sym (rw (eq-eqb own own refl))

          own-next : Knows own w' r' last' (f ∷ past) rest
          own-next =
              moved (start-own E w last b f w' k) (k.count-on own k.lane k.channel) (h.expect-on own k.lane k.channel) refl
              (units-own E w last b f w' k)
              (inv-next _ _ (bounded own k.lane).0 (bounded own k.lane).1 v (whole own) (spans own) (flags own) known f.units k.turn f.stop
              on _ h.delivers (whole' own) now else (spans' own) (span-own own f past refl) (E.start w' own b)
              k.follows)

        -- Whosever it is: what is handed out on lane l is due.
        pub if_kept : (l : ℕ) → l < E.lanes → f.channel ≡ c l → Knows l w r last past (f ∷ rest)
            → (out l ≡ due_in l f past) × Knows l w' r' last' (f ∷ past) rest
        if_kept l lh e i =
            same f.lane l
            (λ o.
            subst (λ (l : ℕ). Knows l w r last past (f ∷ rest) → (out l ≡ due_in l f past) × Knows l w' r' last' (f ∷ past) rest) o
            (λ i. (own-due i, own-next i)) i)
            (λ n. (h.none l n ∙ sym (due-not l f past n), if-beside l lh e n i))
