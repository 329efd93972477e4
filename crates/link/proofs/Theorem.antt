-- Demand 3: what is shown of any pair of ends, of USLP's calls from fresh ends.
use mathlib.Core.Path.{◌≡◌, refl, sym, ap, ◌∙◌, subst}
use Prim.Native.Nat.{ℕ, ◌-◌, ◌*◌, ◌^◌, ◌<◌}
use native.Mathlib.Nat.{zero-mul}
use native.Mathlib.Omega.{arith}
use mathlib.Core.Bool.{Bool, true, false, cond, ◌&&◌}
use mathlib.Core.List.{List, [], ◌∷◌, ◌++◌}
use lib.ListN.{length, get_or, replicate, get_or-replicate}
use Rattle.rules.specs.declared.Setting.{Setting}
use Rattle.rules.specs.declared.Slot.{Slot}
use Rattle.rules.specs.declared.Writer.{Writer}
use Rattle.rules.specs.declared.Listener.{Listener}
use Rattle.rules.specs.declared.Sender.{Sender}
use Rattle.std.specs.Prelude.{Ok, Err}
use Rattle.rules.specs.declared.Refusal.{Refusal}
use Rattle.rules.specs.Areas.{part, held_size}
use Rattle.rules.specs.Settings.{no_slot, channel_of, zone, setting_ok, fresh_reader, fresh_writer, no_writer}
use Rattle.rules.specs.Reading.{held_in}
use Rattle.rules.specs.Calls.{set_up_reader, set_up_writer}
use Rattle.rules.specs.Valid.{Good}
use Rattle.rules.proofs.Tests.{and_left, and_right, get_d_alike}
use Rattle.rules.proofs.Octets.{pow256_pos}
use Rattle.rules.proofs.Valid.{good}
use Rattle.rules.proofs.States.{fresh-reader, none-expected}
use Rattle.rules.proofs.Calls.{setup_accepted}
use Rattle.link.specs.Link.{Call, Frame, place_of, frame_by, Event, Writes, Copy, Stray, arrives, place_in, flown, sent, Arrival, silence, arrivals, Filed, reads, handed_out}
use Rattle.link.specs.Due.{due}
use Rattle.link.specs.Demand.{lending, InOrder, enough, inert, passes, all_pass, kept_on, few_gone, Demand}
use Rattle.link.proofs.Ends.{Fresh}
use Rattle.link.proofs.Flights.{flies, hearing, Runs}
use Rattle.link.proofs.Run.{from-fresh}
use Rattle.link.proofs.Uslp.{Hearer, uslp, channel_8, facts}

-- ---- a run of USLP's ends is a run

module _ (s : Setting) where
  pub flies-flown : (es : List (Event Call)) (w : Writer) → flies (uslp s) w es ≡ flown s w es
  unfolding flies flown
  flies-flown [] w = refl
  flies-flown (Writes x ∷ es) w =
      ap (λ (fs : List (Event Frame)). Writes (frame_by s w x (arrives (place_in s) (place_in s x) es)) ∷ fs) (flies-flown es _)
  flies-flown (Copy c lent ∷ es) w = ap (λ (fs : List (Event Frame)). Copy c lent ∷ fs) (flies-flown es w)
  flies-flown (Stray f lent ∷ es) w = ap (λ (fs : List (Event Frame)). Stray f lent ∷ fs) (flies-flown es w)

  hearing-reads : (l : ℕ) (xs : List Arrival) (r : Hearer) → hearing (uslp s) l r xs ≡ handed_out l (reads r.reader r.area xs)
  unfolding hearing reads handed_out
  hearing-reads l [] r = refl
  hearing-reads l (a ∷ more) r = ap (λ (us : List Filed). (uslp s).hands r a l ++ us) (hearing-reads l more _)

  pub runs : (es : List (Event Call)) (w : Writer) (last : ℕ → List ℕ) → InOrder w last es → all_pass s es ≡ true → Runs (uslp s) w last es
  unfolding all_pass passes frame_by
  runs [] w last o q = tt
  runs (Writes x ∷ es) w last o q = ((o.0, o.1), runs es _ (lending x.lane x.batch last) o.2 q)
  runs (Copy c lent ∷ es) w last o q = (and_left _ _ q, runs es w last o (and_right (enough lent) _ q))
  runs (Stray f lent ∷ es) w last o q = (and_left _ _ (and_left _ _ q), runs es w last o (and_right (inert s f && enough lent) _ q))

-- ---- fresh ends

writer_accepted : (s : Setting) → (set_up_writer s).outcome ≡ Ok tt → setting_ok s ≡ true
unfolding set_up_writer
writer_accepted s e = go (setting_ok s) e
  where
    go : (t : Bool)
        → (cond {A = Sender} t (record { outcome = Ok tt; state = fresh_writer s }) (record { outcome = Err Refusal.Invalid; state = no_writer })).outcome
        ≡ Ok tt → t ≡ true
    go true q = refl
    go false q = let z : ◌≡◌ {A = ℕ} 0 1 = cc in absurd (omega arith)

module _ (s : Setting) (h : List ℕ) (full : length h ≡ held_size) where
  fresh : setting_ok s ≡ true → Fresh (uslp s) (fresh_writer s) (record { reader = fresh_reader s; area = h })
  unfolding fresh_writer fresh_reader
  fresh ok =
      record {
        writer = record { setting = refl; counts = refl; next = refl };
        hearer = record { setting = refl; counts = refl; known = refl; slots = refl; area = full; valid = fresh-reader s ok };
        start = λ l b. ap (λ (i : ℕ). i * zone s (channel_of s l)) (get_d_alike {A = ℕ} 8 l 0) ∙ zero-mul _;
        unknown = λ l lh. none-expected (place_of s l) (channel_8 s (good s ok) l lh);
        below = λ l lh. rw (get_d_alike {A = ℕ} 8 (place_of s l) 0) (pow256_pos (channel_of s l).octets);
        held = λ l lh. ap (λ (x : Slot). held_in x (part l h)) (empty l lh);
      }
    where
      empty : (l : ℕ) → l < s.numbered → get_or (replicate 8 no_slot) l no_slot ≡ no_slot
      empty l lh = get_or-replicate 8 l no_slot no_slot (omega (arith, (good s ok).numbered))

  -- Those that set-up leaves.
  pub fresh-ends : (set_up_writer s).outcome ≡ Ok tt → Fresh (uslp s) (set_up_writer s).state (record { reader = (set_up_reader s).state; area = h })
  fresh-ends e =
      let ok : setting_ok s ≡ true = writer_accepted s e in
      let both = setup_accepted s ok in
      subst (λ (o : Sender). Fresh (uslp s) o.state (record { reader = (set_up_reader s).state; area = h })) (sym both.1)
      (subst (λ (o : Listener). Fresh (uslp s) (fresh_writer s) (record { reader = o.state; area = h })) (sym both.0) (fresh ok))

-- ---- demand 3

-- An accepted setting is good.
pub good_setting : (s : Setting) → (set_up_writer s).outcome ≡ Ok tt → Good s
good_setting s e = good s (writer_accepted s e)

pub demand : Demand
demand s h es d near l =
    let w : Writer = (set_up_writer s).state in
    let r : Hearer = record { reader = (set_up_reader s).state; area = h } in
    let g : Good s = good_setting s d.writer in
    subst (λ (fs : List (Event Frame)). handed_out l (reads r.reader h (arrivals silence fs)) ≡ due l [] (sent fs)) (flies-flown s es w)
    (sym (hearing-reads s l _ r)
    ∙ from-fresh (uslp s) (facts s g) l es w r (λ (l : ℕ). []) (fresh-ends s h d.area d.writer) (runs s es w _ d.calls d.link)
    (λ lh.
    subst (λ (fs : List (Event Frame)). few_gone (256 ^ (channel_of s l).octets - 1) false 0 (kept_on (place_of s l) (sent fs)) ≡ true)
    (sym (flies-flown s es w))
    (near (place_of s l) (g.lanes l lh).channel)))
