-- What follows from the demand. Where nothing is gone from the begin of a batch on, what is due is all that ends; where all is gone, nothing
-- is due; and in both cases the bound holds by itself.
use mathlib.Core.Path.{◌≡◌, refl, sym, ap, ap₂, ◌∙◌, subst}
use Prim.Native.Nat.{ℕ, suc, ◌-◌, ◌*◌, ◌^◌, ◌<◌}
use native.Mathlib.Nat.{zero-mul}
use native.Mathlib.Omega.{arith}
use mathlib.Core.Bool.{Bool, true, false, cond, not, ◌||◌, false≢true}
use mathlib.Core.List.{List, [], ◌∷◌, ◌++◌}
use borrow.Author.Tests.{lt-ltb}
use Rattle.rules.specs.declared.Setting.{Setting}
use Rattle.rules.specs.declared.Writer.{Writer}
use Rattle.rules.specs.Tests.{◌=?◌, ◌<?◌}
use Rattle.rules.specs.Settings.{channel, channel_of, number, zone}
use Rattle.rules.specs.Calls.{set_up_reader, set_up_writer}
use Rattle.rules.specs.Valid.{Good}
use Rattle.rules.proofs.Counts.{counts_many}
use Rattle.rules.proofs.Tests.{and_left, and_right}
use Rattle.std.proofs.lemmas.Bool.{and_from}
use Rattle.link.specs.Link.{Call, Frame, place_of, start_of, frame_by, Event, Writes, Copy, Stray, arrives, place_in, flown, sent, octets_in}
use Rattle.link.specs.Due.{none_gone, due}
use Rattle.link.specs.Demand.{kept_on, few_gone, frames_of, Run}
use Rattle.link.specs.Corollaries.{units_sent, units_ended, after_calls, Between, sent_before, earlier, later, all_kept, all_gone, NothingGone, EverythingGone, NoMoreGone, LaterBatches}
use Rattle.link.proofs.Ends.{Fresh}
use Rattle.link.proofs.Views.{due-gone}
use Rattle.link.proofs.Flights.{flies, after, Runs}
use Rattle.link.proofs.Later.{Begins, wrote_before, later-due, later-units}
use Rattle.link.proofs.Uslp.{uslp, facts}
use Rattle.link.proofs.Theorem.{flies-flown, runs, fresh-ends, good_setting, demand}

-- ---- frames that are all kept, or all gone

module _ (c : ℕ) where
  kept-none-gone : (fs : List Frame) → all_kept fs ≡ true → none_gone c fs ≡ true
  unfolding all_kept none_gone
  kept-none-gone [] h = refl
  kept-none-gone (f ∷ fs) h =
      and_from (cond (f.channel =? c) f.kept true) (none_gone c fs) (by (f.channel =? c))
      (kept-none-gone fs (and_right f.kept _ h))
    where
      by : (t : Bool) → cond t f.kept true ≡ true
      by true = and_left _ _ h
      by false = refl

  -- Frames kept, or gone, do not break the bound.
  kept-few : (m : ℕ) → 0 < m → (any : Bool) (fs : List Frame) → all_kept fs ≡ true → few_gone m any 0 (kept_on c fs) ≡ true
  unfolding all_kept kept_on few_gone
  kept-few m p any [] h = refl
  kept-few m p any (f ∷ fs) h =
      by (f.channel =? c) f.kept (and_left _ _ h) (λ t. kept-few m p t fs (and_right f.kept _ h))
    where
      near : (t : Bool) → (not t || 0 <? m) ≡ true
      near true = lt-ltb 0 m p
      near false = refl

      by : (t k : Bool) → k ≡ true → ((t : Bool) → few_gone m t 0 (kept_on c fs) ≡ true) → few_gone m any 0 (cond t (k ∷ []) [] ++ kept_on c fs) ≡ true
      by true true e r = and_from (not any || 0 <? m) _ (near any) (r true)
      by true false e r = absurd (false≢true e)
      by false k e r = r any

  gone-few : (m g : ℕ) (fs : List Frame) → all_gone fs ≡ true → few_gone m false g (kept_on c fs) ≡ true
  unfolding all_gone kept_on few_gone
  gone-few m g [] h = refl
  gone-few m g (f ∷ fs) h =
      by (f.channel =? c) f.kept (and_left _ _ h) (λ i. gone-few m i fs (and_right (not f.kept) _ h))
    where
      by : (t k : Bool) → not k ≡ true → ((i : ℕ) → few_gone m false i (kept_on c fs) ≡ true) → few_gone m false g (cond t (k ∷ []) [] ++ kept_on c fs) ≡ true
      by true true e r = absurd (false≢true e)
      by true false e r = r (suc g)
      by false k e r = r g

-- Nothing is due where all is gone.
gone-due : (l : ℕ) (fs past : List Frame) → all_gone fs ≡ true → due l past fs ≡ []
unfolding all_gone due
gone-due l [] past h = refl
gone-due l (f ∷ fs) past h =
    ap₂ ◌++◌ (due-gone l f past (gone f.kept (and_left _ _ h))) (gone-due l fs (f ∷ past) (and_right (not f.kept) _ h))
  where
    gone : (k : Bool) → not k ≡ true → k ≡ false
    gone true e = absurd (false≢true e)
    gone false e = refl

pub everything_gone : EverythingGone
everything_gone s held xs run h l =
    demand s held xs run (λ c b. gone-few c (256 ^ (channel s c).octets - 1) 0 (frames_of s xs) h) l ∙ gone-due l (frames_of s xs) [] h

-- ---- no more is gone

module _ (s : Setting) where
  after-calls : (es : List (Event Call)) (w : Writer) → after (uslp s) w es ≡ after_calls w es
  unfolding after after_calls
  after-calls [] w = refl
  after-calls (Writes x ∷ es) w = after-calls es _
  after-calls (Copy c lent ∷ es) w = after-calls es w
  after-calls (Stray f lent ∷ es) w = after-calls es w

  wrote-before : (xs ys : List (Event Call)) (w : Writer) → wrote_before (uslp s) w xs ys ≡ sent_before s w xs ys
  unfolding wrote_before sent_before
  wrote-before [] ys w = refl
  wrote-before (Writes x ∷ xs) ys w =
      ap (λ (fs : List Frame). frame_by s w x (arrives (place_in s) (place_in s x) (xs ++ ys)) ∷ fs) (wrote-before xs ys _)
  wrote-before (Copy c lent ∷ xs) ys w = wrote-before xs ys w
  wrote-before (Stray f lent ∷ xs) ys w = wrote-before xs ys w

  wrote-later : (xs ys : List (Event Call)) (w : Writer) → sent (flies (uslp s) (after (uslp s) w xs) ys) ≡ sent (flown s (after_calls w xs) ys)
  wrote-later xs ys w = ap (λ (y : Writer). sent (flies (uslp s) y ys)) (after-calls xs w) ∙ ap sent (flies-flown s ys (after_calls w xs))

  between : (es : List (Event Call)) (w : Writer) (l : ℕ) → number (after_calls w es) l ≡ 0 → Begins (uslp s) l (after (uslp s) w es)
  between es w l e b =
      ap (λ (y : Writer). start_of s y l) (after-calls es w) ∙ ap (λ (k : ℕ). k * zone s (channel_of s l)) e ∙ zero-mul _

-- After the events xs the lane stands between batches.
module _ (s : Setting) (held : List ℕ) (xs ys : List (Event Call)) (run : Run s held (xs ++ ys)) (l : ℕ) where
  abbrev w : Writer
  w = (set_up_writer s).state

  new : Fresh (uslp s) w (record { reader = (set_up_reader s).state; area = held })
  new = fresh-ends s held run.area run.writer

  goes : Runs (uslp s) w (λ (l : ℕ). []) (xs ++ ys)
  goes = runs s (xs ++ ys) w _ run.calls run.link

  good : Good s
  good = good_setting s run.writer

  module _ (b : Begins (uslp s) l (after (uslp s) w xs)) where
    due-later : none_gone (place_of s l) (later s xs ys) ≡ true
        → octets_in (due l [] (frames_of s (xs ++ ys))) ≡ octets_in (due l [] (earlier s xs ys)) ++ units_ended l (later s xs ys)
    due-later n =
        ap (λ (fs : List (Event Frame)). octets_in (due l [] (sent fs))) (sym (flies-flown s (xs ++ ys) w))
        ∙ later-due (uslp s) (facts s good) l xs ys w _ [] new.writer goes b
        (subst (λ (fs : List Frame). none_gone (place_of s l) fs ≡ true) (sym (wrote-later s xs ys w)) n)
        ∙ ap₂ (λ (fs gs : List Frame). octets_in (due l [] fs) ++ units_ended l gs) (wrote-before s xs ys w) (wrote-later s xs ys w)

    units-later : Between s (xs ++ ys) l → units_ended l (later s xs ys) ≡ units_sent l (later s xs ys)
    units-later e =
        subst (λ (fs : List Frame). units_ended l fs ≡ units_sent l fs) (wrote-later s xs ys w)
        (later-units (uslp s) (facts s good) l xs ys w _ new.writer goes b (between s (xs ++ ys) w l e))

pub no_more-gone : NoMoreGone
no_more-gone s held xs ys run near l b n =
    ap octets_in (demand s held (xs ++ ys) run near l) ∙ due-later s held xs ys run l (between s xs (set_up_writer s).state l b) n

pub later-batches : LaterBatches
later-batches s held xs ys run l b e = units-later s held xs ys run l (between s xs (set_up_writer s).state l b) e

pub nothing-gone : NothingGone
unfolding after after_calls due sent_before
nothing-gone s held xs run h l e =
    let b = (new s held [] xs run l).start l in
    ap octets_in (demand s held xs run
    (λ c p.
    let n = counts_many (channel s c).octets ((good_setting s run.writer).channels c p).one in
    kept-few c (256 ^ (channel s c).octets - 1) (omega (arith, n)) false (frames_of s xs) h) l)
    ∙ due-later s held [] xs run l b (kept-none-gone (place_of s l) (frames_of s xs) h) ∙ units-later s held [] xs run l b e
