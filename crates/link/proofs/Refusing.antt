-- Which octets a run refuses. A read of a valid reader with areas of the size asked for ends as refusals 3 to 12 say of its octets, and leaves
-- such a reader; so do all reads of a run, whatever arrives. Frames that were written are refused by none.
use mathlib.Core.Path.{◌≡◌, refl, ap, ap₂, ◌∙◌, subst}
use Prim.Native.Nat.{ℕ, zero, suc}
use mathlib.Core.Bool.{Bool, true, false, cond, not, ◌&&◌, false≢true}
use mathlib.Core.List.{List, [], ◌∷◌, ◌++◌}
use lib.ListN.{length}
use borrow.Author.Tests.{eq-eqb}
use Rattle.rules.specs.declared.Setting.{Setting}
use Rattle.rules.specs.declared.Reader.{Reader}
use Rattle.rules.specs.declared.Writer.{Writer}
use Rattle.std.specs.Prelude.{Option, Some, None}
use Rattle.rules.specs.declared.Verdict.{Verdict}
use Rattle.rules.specs.Tests.{◌=?◌, ◌≠?◌, given}
use Rattle.rules.specs.Settings.{reader_ok}
use Rattle.rules.specs.Frames.{vc, map, bypass, command}
use Rattle.rules.specs.Refusals.{channel_at, lane_at, refusals, on_channel, passed, judged, judge}
use Rattle.rules.specs.Calls.{set_up_reader, set_up_writer, laid_out, read_on, again, on_verdict, verdict, read}
use Rattle.rules.proofs.Tests.{and_left, and_right}
use Rattle.rules.specs.Valid.{Good}
use Rattle.rules.proofs.Calls.{TakenOn, again-cases, verdict-cond, read_valid, read_setting, read_held}
use Rattle.link.specs.Link.{Call, frame_by, Lent, Event, Writes, Copy, Stray, place_in, flown, Arrival, Air, silence, sending, copied, arrivals, reads}
use Rattle.link.specs.Demand.{lending, InOrder, enough, inert, passes, all_pass, arrivals_of}
use Rattle.link.specs.Corollaries.{end_of, ends, refused_by, applying, RefusedOctets, refused_of, strays, KeptAccepted}
use Rattle.link.proofs.Received.{enough-areas}
use Rattle.link.proofs.Uslp.{SoundWriter, back, facts}
use Rattle.link.proofs.Theorem.{fresh-ends, good_setting}
use Rattle.rules.specs.Areas.{held_size}

-- ---- one read

abbrev refusal : Verdict → Option ℕ
refusal (Verdict.Refused n) = Some n
refusal Verdict.Idle = None
refusal (Verdict.Counted c) = None
refusal (Verdict.Read l) = None
refusal (Verdict.Repeat c) = None

-- A repeat is not refused, as it would not be if it were none.
again_is : (r : Reader) (f : List ℕ) (v : Verdict) → refusal (again r f v) ≡ refusal v
again_is r f v = again-cases r f (λ (w : Verdict). refusal w ≡ refusal v) v (λ n. refl) (λ c t e. on v c t)
  where
    on : (v : Verdict) (c : ℕ) → TakenOn r.setting v c → None ≡ refusal v
    on (Verdict.Refused n) c t = absurd t
    on Verdict.Idle c t = refl
    on (Verdict.Counted k) c t = refl
    on (Verdict.Read l) c t = refl
    on (Verdict.Repeat k) c t = refl

judged_is : (s : Setting) (f : List ℕ) (n : ℕ) → refusal (judged s f n) ≡ refused_by n
unfolding judged refused_by passed on_channel
judged_is s f zero = by-channel (channel_at s (vc f) (bypass f))
  where
    by-test : (c l : ℕ) (t : Bool) → refusal (cond t (Verdict.Counted c) (Verdict.Read l)) ≡ None
    by-test c l true = refl
    by-test c l false = refl

    by-lane : (c : ℕ) (p : Option ℕ) → refusal (on_channel f c p) ≡ None
    by-lane c None = refl
    by-lane c (Some l) = by-test c l (command f =? 1)

    by-channel : (p : Option ℕ) → refusal (passed s f p) ≡ None
    by-channel None = refl
    by-channel (Some c) = by-lane c (lane_at s c (map f))
judged_is s f (suc n) = refl

ends_as : (r : Reader) (f h : List ℕ) (a : Lent) → reader_ok r ≡ true → length h ≡ held_size → enough a ≡ true
    → end_of (read r f h a.units a.records).taken.answer.class ≡ refused_by (given (refusals r.setting f))
unfolding read judge
ends_as r f h a ok full lent =
    class-is (verdict r f h a.units a.records) ∙ ap refusal verdict-is ∙ again_is r f (judge r.setting f)
    ∙ judged_is r.setting f (given (refusals r.setting f))
  where
    class-is : (v : Verdict) → end_of (on_verdict v r f h a.units a.records).taken.answer.class ≡ refusal v
    class-is (Verdict.Refused n) = unfold on_verdict end_of in refl
    class-is Verdict.Idle = unfold on_verdict end_of in refl
    class-is (Verdict.Counted c) = unfold on_verdict end_of in refl
    class-is (Verdict.Read l) = unfold on_verdict read_on laid_out end_of in refl
    class-is (Verdict.Repeat c) = unfold on_verdict end_of in refl

    verdict-is : verdict r f h a.units a.records ≡ again r f (judge r.setting f)
    verdict-is = verdict-cond r f h a.units a.records ∙ rw (ok, enough-areas h a full lent)

-- ---- all reads

-- Each is lent areas of the size asked for.
abbrev Sized : List Arrival → Type 0
Sized [] = Unit {0}
Sized (a ∷ more) = (enough a.lent ≡ true) × Sized more

reads_end : (s : Setting) (xs : List Arrival) (r : Reader) (h : List ℕ) → r.setting ≡ s → reader_ok r ≡ true → length h ≡ held_size → Sized xs
    → ends (reads r h xs) ≡ applying s xs
unfolding reads ends applying
reads_end s [] r h e ok full z = refl
reads_end s (a ∷ more) r h e ok full z =
    ap₂ ◌∷◌ (ends_as r a.octets h a.lent ok full z.0 ∙ ap (λ (y : Setting). refused_by (given (refusals y a.octets))) e)
    (reads_end s more _ _ (read_setting r a.octets h a.lent.units a.lent.records ∙ e)
    (read_valid r a.octets h a.lent.units a.lent.records ok) (read_held r a.octets h a.lent.units a.lent.records full) z.1)

-- What arrives, of events with calls or frames in them.
module _ (s : Setting) where
  all-sized : (es : List (Event Call)) (w : Writer) (air : Air) → all_pass s es ≡ true → Sized (arrivals air (flown s w es))
  unfolding flown arrivals passes all_pass
  all-sized [] w air q = tt
  all-sized (Writes x ∷ es) w air q = all-sized es _ _ q
  all-sized (Copy c lent ∷ es) w air q = by (air c) (all-sized es w air (and_right (enough lent) _ q))
    where
      by : (os : List (List ℕ)) → Sized (arrivals air (flown s w es)) → Sized (copied os lent ++ arrivals air (flown s w es))
      by [] z = z
      by (o ∷ os) z = (and_left _ _ q, z)
  all-sized (Stray f lent ∷ es) w air q =
      (and_right (inert s f) _ (and_left (inert s f && enough lent) _ q), all-sized es w air (and_right (inert s f && enough lent) _ q))

  -- ---- frames that were written

  -- None of what is sent is refused.
  abbrev Fine : List (List ℕ) → Type 0
  Fine [] = Unit {0}
  Fine (o ∷ os) = given (refusals s o) ≡ 0

  written-accepted : (es : List (Event Call)) (w : Writer) (last : ℕ → List ℕ) (air : Air) → Good s → SoundWriter s w → InOrder w last es
      → all_pass s es ≡ true → ((c : ℕ) → Fine (air c)) → refused_of s (arrivals air (flown s w es)) ≡ strays es
  unfolding flown arrivals refused_of strays passes all_pass inert sending frame_by
  written-accepted [] w last air g k o p a = refl
  written-accepted (Writes x ∷ es) w last air g k o p a =
      written-accepted es _ (lending x.lane x.batch last) _ g ((facts s g).sends w last x true k (o.0, o.1)).sound o.2 p
      (λ c. on c (place_in s x =? c) (subst (λ (t : Setting). given (refusals t (frame_by t w x true).octets) ≡ 0) k.setting
      (back w last x true (o.0, o.1)).accepted))
    where
      on : (c : ℕ) (t : Bool) → given (refusals s (frame_by s w x true).octets) ≡ 0 → Fine (cond t ((frame_by s w x true).octets ∷ []) (air c))
      on c true e = e
      on c false e = a c
  written-accepted (Copy c lent ∷ es) w last air g k o p a =
      by (air c) (a c) (written-accepted es w last air g k o (and_right (enough lent) _ p) a)
    where
      by : (os : List (List ℕ)) → Fine os → refused_of s (arrivals air (flown s w es)) ≡ strays es
          → refused_of s (copied os lent ++ arrivals air (flown s w es)) ≡ strays es
      by [] z i = i
      by (f ∷ fs) z i = ap (λ (t : Bool). cond t [] (f ∷ []) ++ refused_of s (arrivals air (flown s w es))) (eq-eqb _ 0 z) ∙ i
  written-accepted (Stray f lent ∷ es) w last air g k o p a =
      ap₂ ◌++◌ (by (given (refusals s f) =? 0) (and_left _ _ (and_left _ _ p)))
      (written-accepted es w last air g k o (and_right (given (refusals s f) ≠? 0 && enough lent) _ p) a)
    where
      by : (t : Bool) → not t ≡ true → cond t [] (f ∷ []) ≡ f ∷ []
      by true e = absurd (false≢true e)
      by false e = refl

pub refused_octets : RefusedOctets
refused_octets s held es run =
    let k = (fresh-ends s held run.area run.writer).hearer in
    reads_end s (arrivals_of s es) (set_up_reader s).state held k.setting k.valid run.area (all-sized s es _ silence run.link)

pub kept_accepted : KeptAccepted
kept_accepted s held es run =
    written-accepted s es (set_up_writer s).state (λ (l : ℕ). []) silence (good_setting s run.writer)
    (fresh-ends s held run.area run.writer).writer run.calls run.link (λ c. tt)
