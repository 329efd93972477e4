-- One lane and its channel, through a run: what both ends know of it, and what each frame makes of that.
--
-- So many frames are gone since the last kept one, and units that begin before octet j of the batch are lost. The reader drops
-- what it holds only at the next kept frame, so nothing is said of held octets while frames are gone.
use mathlib.Core.Path.{◌≡◌, refl, sym, ap, ap₂, ◌∙◌}
use mathlib.Core.Logic.{◌⊎◌, inl, inr}
use Prim.Native.Nat.{ℕ, suc, ◌+◌, ◌%◌, ◌^◌, ◌≤◌, ◌<◌}
use native.Mathlib.Nat.{le_refl, suc-ne-zero}
use native.Mathlib.Omega.{arith}
use mathlib.Core.Bool.{Bool, true, false, cond, not, ◌||◌, true≢false, false≢true}
use mathlib.Core.List.{List, ◌∷◌}
use borrow.Author.Tests.{ltb-true, le-leb, lt-leb, ne_eqb}
use Rattle.rules.specs.declared.Expect.{Expect}
use Rattle.rules.specs.Tests.{◌≤?◌, ◌<?◌, ◌=?◌}
use Rattle.rules.specs.Writing.{count_after}
use Rattle.rules.specs.Reading.{missing, expected, DataUnit, no_unit}
use Rattle.rules.proofs.Tests.{split, same, and_left, and_right}
use Rattle.rules.proofs.Counts.{expect-by, missing_unknown, missing-gone, expected-below, one_further, none-further}
use Rattle.link.specs.Due.{ending}
use Rattle.link.specs.Demand.{few_gone}
use Rattle.link.proofs.Spans.{Yield, yields, spanned, onward, held_from, held_none, held-over, Delivers, Follows}

-- ---- a lane's view

-- What is known of a lane: the octet of its batch with which its next frame starts and its channel's count, at the writer; the count that the
-- reader expects, and what the reader holds; the units of the batch last lent.
pub record View : Type 0 where
  pub start : ℕ
  pub count : ℕ
  pub expect : Expect
  pub hold : DataUnit
  pub units : List (List ℕ)

-- What is held after a frame with count v, before the frame is read.
unfoldable pub held_after : ℕ → Expect → ℕ → DataUnit → DataUnit
held_after n e v hold = cond (missing n e v =? 0) hold no_unit

-- A lane whose channel's counts have n octets, and between two of whose channel's kept frames fewer than m are gone.
module _ (n m : ℕ) where
  -- `whole i` says that no frame of the channel is gone since the frame where octet i of the batch is, and `spans i` how many of the lane's there are
  -- since that one; the flags say which frames of the channel that are to come are kept.
  pub record Inv (v : View) (whole : ℕ → Bool) (spans : ℕ → ℕ) (flags : List Bool) : Type 0 where
    pub j : ℕ
    pub gone : ℕ
    pub any : Bool
    pub since : j ≤ v.start
    pub wholly : (i : ℕ) → i < v.start → whole i ≡ j ≤? i
    pub known : v.expect.known ≡ any
    pub below : v.expect.count < 256 ^ n
    pub count : any ≡ true → v.count ≡ (v.expect.count + gone) % 256 ^ n
    pub held : gone ≡ 0 → v.hold ≡ held_from j spans 0 v.start v.units
    pub fresh : any ≡ false → v.hold ≡ no_unit
    pub lost : (gone ≡ 0 → ⊥) → j ≡ v.start
    pub few : few_gone m any gone flags ≡ true

  -- Where all that began is lost, nothing is held.
  none_left : (start : ℕ) (spans : ℕ → ℕ) (us : List (List ℕ)) → held_from start spans 0 start us ≡ no_unit
  none_left start spans us = held_none start spans 0 start us (omega arith)

  -- What is held goes by the spans, number by number.
  same-spans : (j : ℕ) (spans spans' : ℕ → ℕ) (o : ℕ) (us : List (List ℕ)) → ((i : ℕ) → spans' i ≡ spans i)
      → held_from j spans 0 o us ≡ held_from j spans' 0 o us
  same-spans j spans spans' o us h = ap (λ (n : ℕ → ℕ). held_from j n 0 o us) (λ t i. (sym (h i)) t)

  -- ---- a frame of another channel

  pub inv-other : (v : View) (whole whole' : ℕ → Bool) (spans spans' : ℕ → ℕ) (flags : List Bool) → ((i : ℕ) → whole' i ≡ whole i)
      → ((i : ℕ) → spans' i ≡ spans i) → Inv v whole spans flags → Inv v whole' spans' flags
  inv-other v whole whole' spans spans' flags h g r =
      record {
        j = r.j;
        gone = r.gone;
        any = r.any;
        since = r.since;
        wholly = λ i l. h i ∙ r.wholly i l;
        known = r.known;
        below = r.below;
        count = r.count;
        held = λ e. r.held e ∙ same-spans r.j spans spans' v.start v.units g;
        fresh = r.fresh;
        lost = r.lost;
        few = r.few;
      }

  -- ---- a frame of the channel is gone: the reader knows nothing of it

  pub inv-gone : (v : View) (whole whole' : ℕ → Bool) (spans spans' : ℕ → ℕ) (flags : List Bool) (start : ℕ) (us : List (List ℕ))
      → ((i : ℕ) → whole' i ≡ false) → Inv v whole spans (false ∷ flags)
      → Inv (record { start = start; count = count_after n v.count; expect = v.expect; hold = v.hold; units = us }) whole' spans' flags
  unfolding few_gone
  inv-gone v whole whole' spans spans' flags start us h r =
      record {
        j = start;
        gone = suc r.gone;
        any = r.any;
        since = le_refl start;
        wholly = λ i l. h i ∙ sym (lt-leb start i l);
        known = r.known;
        below = r.below;
        count = λ a. ap (count_after n) (r.count a) ∙ one_further n v.expect.count r.gone;
        held = λ e. absurd (suc-ne-zero r.gone e);
        fresh = r.fresh;
        lost = λ e. refl;
        few = r.few;
      }

  -- ---- a frame of the channel is kept

  module _ (some : 0 < m) (most : m ≤ 256 ^ n) (v : View) (whole : ℕ → Bool) (spans : ℕ → ℕ) (flags : List Bool)
      (r : Inv v whole spans (true ∷ flags)) where
    near : r.any ≡ true → r.gone < m
    unfolding few_gone
    near a = go r.any a (and_left (not r.any || r.gone <? m) (few_gone m true 0 flags) r.few)
      where
        go : (t : Bool) → t ≡ true → (not t || r.gone <? m) ≡ true → r.gone < m
        go true a h = ltb-true _ _ h
        go false a h = absurd (false≢true a)

    few-next : few_gone m true 0 flags ≡ true
    unfolding few_gone
    few-next = and_right (not r.any || r.gone <? m) (few_gone m true 0 flags) r.few

    missed : (t : Bool) → r.any ≡ t → missing n v.expect v.count ≡ cond t r.gone 0
    missed true a =
        ap₂ (λ (e : Expect) (x : ℕ). missing n e x) (expect-by v.expect true (r.known ∙ a)) (r.count a)
        ∙ missing-gone n v.expect.count r.gone r.below (omega (arith, near a, most))
    missed false a =
        ap (λ (e : Expect). missing n e v.count) (expect-by v.expect false (r.known ∙ a)) ∙ missing_unknown n v.expect.count v.count

    -- The reader misses fewer than m.
    pub few-missed : missing n v.expect v.count < m
    few-missed = go r.any refl
      where
        go : (t : Bool) → r.any ≡ t → missing n v.expect v.count < m
        go true a = omega (arith, missed true a, near a)
        go false a = omega (arith, missed false a, some)

    -- The reader then holds what it should: the gap, if there is one, drops what is lost.
    settled : held_after n v.expect v.count v.hold ≡ held_from r.j spans 0 v.start v.units
    unfolding held_after
    settled = go r.any refl
      where
        lost-now : (r.gone ≡ 0 → ⊥) → held_from r.j spans 0 v.start v.units ≡ no_unit
        lost-now e = ap (λ (i : ℕ). held_from i spans 0 v.start v.units) (r.lost e) ∙ none_left v.start spans v.units

        -- What is held where so many are missing.
        by : ℕ → DataUnit
        by x = cond (x =? 0) v.hold no_unit

        go : (t : Bool) → r.any ≡ t → by (missing n v.expect v.count) ≡ held_from r.j spans 0 v.start v.units
        go true a =
            same r.gone 0
            (λ e. ap by (missed true a ∙ e) ∙ r.held e)
            (λ e. ap by (missed true a) ∙ ap (λ (t : Bool). cond t v.hold no_unit) (ne_eqb r.gone 0 e) ∙ sym (lost-now e))
        go false a =
            ap by (missed false a)
            ∙ same r.gone 0 (λ e. r.held e) (λ e. r.fresh a ∙ sym (lost-now e))

    -- What both ends know afterwards, where the reader holds what it should.
    kept : (start j : ℕ) (hold : DataUnit) (us : List (List ℕ)) (whole' : ℕ → Bool) (spans' : ℕ → ℕ) → j ≤ start
        → ((i : ℕ) → i < start → whole' i ≡ j ≤? i) → hold ≡ held_from j spans' 0 start us
        → Inv (record { start = start; count = count_after n v.count; expect = expected n v.count; hold = hold; units = us }) whole' spans' flags
    unfolding expected count_after
    kept start j hold us whole' spans' h w q =
        record {
          j = j;
          gone = 0;
          any = true;
          since = h;
          wholly = w;
          known = refl;
          below = expected-below n v.count;
          count = λ a. sym (none-further n v.count);
          held = λ e. q;
          fresh = λ a. absurd (true≢false a);
          lost = λ e. absurd (e refl);
          few = few-next;
        }

    abbrev hold-now : DataUnit
    hold-now = held_after n v.expect v.count v.hold

    -- It is another lane's.
    pub inv-beside : (whole' : ℕ → Bool) (spans' : ℕ → ℕ) → ((i : ℕ) → whole' i ≡ whole i) → ((i : ℕ) → spans' i ≡ spans i)
        → Inv (record { start = v.start; count = count_after n v.count; expect = expected n v.count; hold = hold-now; units = v.units }) whole'
        spans' flags
    inv-beside whole' spans' h g =
        kept v.start r.j hold-now v.units whole' spans' r.since (λ i l. h i ∙ r.wholly i l)
        (settled ∙ same-spans r.j spans spans' v.start v.units g)

    -- It is the lane's next frame, of these units.
    module _ (us : List (List ℕ)) (turn : (v.start ≡ 0) ⊎ (us ≡ v.units)) (stop : ℕ) (on : v.start ≤ stop)
        (y : Yield) (does : Delivers us v.start stop hold-now y)
        (whole' : ℕ → Bool) (now : (i : ℕ) → v.start ≤ i → whole' i ≡ true) (else : (i : ℕ) → i < v.start → whole' i ≡ whole i)
        (spans' : ℕ → ℕ) (more : (i : ℕ) → spans' i ≡ onward v.start spans i) where
      -- Of a batch that begins no more is held than of the one before it.
      turned : held_from r.j spans 0 v.start v.units ≡ held_from r.j spans 0 v.start us
      turned = go turn
        where
          go : (v.start ≡ 0) ⊎ (us ≡ v.units) → held_from r.j spans 0 v.start v.units ≡ held_from r.j spans 0 v.start us
          go (inl e) = held_none r.j spans 0 v.start v.units (omega arith) ∙ sym (held_none r.j spans 0 v.start us (omega arith))
          go (inr e) = ap (held_from r.j spans 0 v.start) (sym e)

      made : y ≡ yields (ending v.start stop (λ (i : ℕ). r.j ≤? i) (spanned spans') 0 us) (held_from r.j spans' 0 stop us)
      made =
          does r.j spans r.since (settled ∙ turned)
          ∙ ap (λ (n : ℕ → ℕ). yields (ending v.start stop (λ (i : ℕ). r.j ≤? i) (spanned n) 0 us) (held_from r.j n 0 stop us))
          (λ t i. (sym (more i)) t)

      wholly : (i : ℕ) → whole' i ≡ r.j ≤? i
      wholly i =
          split v.start i (λ h. now i h ∙ sym (le-leb r.j i (omega (arith, r.since)))) (λ h. else i h ∙ r.wholly i h)

      -- It hands out the units that end in this frame and lost none.
      pub units-due : y.units ≡ ending v.start stop whole' (spanned spans') 0 us
      units-due =
          ap (λ (x : Yield). x.units) made ∙ ap (λ (p : ℕ → Bool). ending v.start stop p (spanned spans') 0 us) (λ t i. (sym (wholly i)) t)

      pub inv-next : (next : ℕ) → Follows us stop next
          → Inv (record { start = next; count = count_after n v.count; expect = expected n v.count; hold = y.held; units = us }) whole' spans' flags
      inv-next next (inl e) = kept next r.j y.held us whole' spans' (omega (arith, r.since)) (λ i l. wholly i)
          (ap (λ (x : Yield). x.held) made ∙ ap (λ (o : ℕ). held_from r.j spans' 0 o us) (sym e))
      inv-next next (inr e) = kept next 0 y.held us whole' spans' (omega arith) (λ i l. absurd (omega (arith, e.0)))
          (ap (λ (x : Yield). x.held) made ∙ held-over r.j spans' 0 stop us e.1 ∙ sym (held_none 0 spans' 0 next us (omega (arith, e.0))))
