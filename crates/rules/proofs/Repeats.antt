-- "Frames sent twice" (document 02, A3). A frame whose count is the last one taken changes nothing; so a second copy of a frame, right after the
-- first, changes nothing, whatever the frame is. And before a frame that is no repeat at most 256^n - 2 are missing.
use mathlib.Core.Path.{◌≡◌, refl, sym, ap, ◌∙◌, subst}
use Prim.Native.Nat.{ℕ, ◌+◌, ◌^◌, ◌≤◌, ◌<◌}
use native.Mathlib.Omega.{arith}
use mathlib.Core.Bool.{Bool, true, false, cond, not}
use mathlib.Core.List.{List}
use lib.ListN.{length, drop}
use Rattle.rules.specs.declared.Setting.{Setting}
use Rattle.rules.specs.declared.Expects.{Expects}
use Rattle.rules.specs.declared.Expect.{Expect}
use Rattle.rules.specs.declared.Reader.{Reader}
use Rattle.rules.specs.declared.Class.{Class}
use Rattle.std.specs.Prelude.{Some}
use Rattle.rules.specs.declared.Verdict.{Verdict}
use Rattle.rules.specs.Settings.{count_at, channel, lane, expect_on, expect, expecting, reader_ok}
use Rattle.rules.specs.Frames.{count_in}
use Rattle.rules.specs.Reading.{expected, repeats, gap}
use Rattle.rules.specs.Refusals.{judge}
use Rattle.rules.specs.Calls.{Got, areas_short, bare, laid_out, read_on, repeats_at, again, on_verdict, verdict, read, missing_at, on_look, look}
use Rattle.rules.specs.Valid.{GoodReader}
use Rattle.rules.proofs.Octets.{Octets, octets_drop, num-part}
use Rattle.rules.proofs.Counts.{counts_many, no_repeat-few, taken-repeats}
use Rattle.rules.proofs.Valid.{good_reader}
use Rattle.rules.proofs.Judged.{Judged, judge-facts}
use Rattle.rules.proofs.States.{expect-same, gap-setting, gap-expects}
use Rattle.rules.proofs.Calls.{TakenOn, repeats_on, New, again-cases, again-taken, again-new, again-judged, verdict-cond, read_valid, read_setting}
use Rattle.rules.proofs.Looks.{looked-cond}

-- A frame's count fits its octets.
pub count-below : (s : Setting) (c : ℕ) (f : List ℕ) → Octets f → count_in (channel s c) f < 256 ^ (channel s c).octets
unfolding count_in
count-below s c f o = num-part (channel s c).octets (drop count_at f) (octets_drop count_at f o)

-- ---- before a frame that is no repeat

module _ (r : Reader) (f : List ℕ) where
  -- "Missing is now at most 256^n - 2", of a look's answer; a read's is the same (`Looks.same-answers`).
  pub missing-few : Octets f → (c : ℕ) → (look r f).channel ≡ Some c → (look r f).missing + 2 ≤ 256 ^ (channel r.setting c).octets
  unfolding look on_look repeats_at missing_at
  missing-few o c = rw (looked-cond r f) (valid (reader_ok r) refl)
    where
      Few : Verdict → Type 0
      Few v = (on_look v r f).channel ≡ Some c → (on_look v r f).missing + 2 ≤ 256 ^ (channel r.setting c).octets

      on : GoodReader r → (d : ℕ) → d < r.setting.listed → d ≡ c → repeats_on r f d ≡ false
          → missing_at r d (count_in (channel r.setting d) f) + 2 ≤ 256 ^ (channel r.setting c).octets
      on g d h q n =
          rw (← q) (no_repeat-few _ (g.setting.channels d h).one (expect r d) _ (g.counts d h) (count-below r.setting d f o) n)

      none : (n : ℕ) → Few (Verdict.Refused n)
      none n e = let z : ◌≡◌ {A = ℕ} 0 1 = cc in absurd (omega arith)

      few : (v : Verdict) → GoodReader r → Judged r.setting f v → New r f v → Few v
      few (Verdict.Refused n) g j w e = none n e
      few Verdict.Idle g j n e = let z : ◌≡◌ {A = ℕ} 0 1 = cc in absurd (omega arith)
      few (Verdict.Counted d) g j n e = let q : d ≡ c = cc in on g d j.0 q (n d refl)
      few (Verdict.Read l) g j n e =
          let q : (lane r.setting l).channel ≡ c = cc in
          on g (lane r.setting l).channel (g.setting.lanes l j.numbered).channel q (n _ refl)
      few (Verdict.Repeat d) g j n e =
          let q : d ≡ c = cc in
          rw (← q) (omega (arith, counts_many (channel r.setting d).octets (g.setting.channels d j.0).one))

      valid : (a : Bool) → reader_ok r ≡ a → Few (cond (not a) (Verdict.Refused 1) (again r f (judge r.setting f)))
      valid true e =
          let g : GoodReader r = good_reader r e in
          few (again r f (judge r.setting f)) g (again-judged r f g (judge r.setting f) (judge-facts r.setting f))
          (again-new r f (judge r.setting f))
      valid false e = none 1

-- ---- a second copy

-- State and areas as they are, and this class with no counts.
abbrev pub unchanged : Class → Reader → List ℕ → List ℕ → List ℕ → Got
unchanged k r h u c = record { taken = record { answer = bare k; state = r }; held_area = h; unit_area = u; record_area = c }

-- The class of a second copy, by that of the first: what was taken, or was a repeat, is a repeat.
unfoldable pub secondly : Class → Class
secondly Class.Idle = Class.Idle
secondly Class.Counted = Class.Repeat
secondly Class.Read = Class.Repeat
secondly Class.Repeat = Class.Repeat
secondly (Class.Refused n) = Class.Refused n

-- Channel c's count k was taken.
module _ (r : Reader) (c k : ℕ) (counts : c < length r.expects.counts) (known : c < length r.expects.known)
    (small : k < 256 ^ (channel r.setting c).octets) where
  pub repeats-after : (r' : Reader) → r'.setting ≡ r.setting → r'.expects ≡ expecting r.expects c (expected (channel r.setting c).octets k)
      → repeats_at r' c k ≡ true
  unfolding repeats_at
  repeats-after r' s e =
      ap (λ (y : Setting). repeats (channel y c).octets (expect r' c) k) s
      ∙ ap (λ (y : Expect). repeats (channel r.setting c).octets y k)
      (ap (λ (y : Expects). expect_on y c) e ∙ expect-same r.expects c _ counts known) ∙ taken-repeats (channel r.setting c).octets k small

-- A read of frame f, and another one right after it, lent any unit and record areas.
module _ (r : Reader) (f h u c u' c' : List ℕ) (counts : length r.expects.counts ≡ 8) (known : length r.expects.known ≡ 8) (octets : Octets f)
    (ok : reader_ok r ≡ true) where
  abbrev s : Setting
  s = r.setting

  -- The second copy, where the first left this.
  abbrev Second : Verdict → Got → Type 0
  Second v o =
      on_verdict (again o.taken.state f v) o.taken.state f o.held_area u' c'
      ≡ unchanged (secondly o.taken.answer.class) o.taken.state o.held_area u' c'

  -- What takes the frame's count on channel d makes a repeat of it.
  repeated : (v : Verdict) (d : ℕ) → TakenOn s v d → d < s.listed → (next : Reader) → next.setting ≡ s
      → next.expects ≡ expecting r.expects d (expected (channel s d).octets (count_in (channel s d) f)) → again next f v ≡ Verdict.Repeat d
  repeated v d t h next es ee =
      let few = (good_reader r ok).setting.listed in
      let i : d < length r.expects.counts = omega (arith, h, few, counts) in
      let j : d < length r.expects.known = omega (arith, h, few, known) in
      let e = repeats-after r d (count_in (channel s d) f) i j (count-below s d f octets) next es ee in
      again-taken next f v d (subst (λ (y : Setting). TakenOn y v d) (sym es) t)
      (ap (λ (y : Setting). repeats_at next d (count_in (channel y d) f)) es ∙ e)

  taken : (v : Verdict) → Judged s f v → Second v (on_verdict v r f h u c)
  unfolding again on_verdict read_on laid_out secondly
  taken (Verdict.Refused n) j = refl
  taken Verdict.Idle j = refl
  taken (Verdict.Counted d) j =
      let next : Reader = (gap r d (count_in (channel s d) f)).state in
      ap (λ (w : Verdict). on_verdict w next f h u' c') (repeated (Verdict.Counted d) d refl j.0 next (gap-setting r d _) (gap-expects r d _))
  taken (Verdict.Read l) j =
      let d : ℕ = (lane s l).channel in
      let o : Got = on_verdict (Verdict.Read l) r f h u c in
      ap (λ (w : Verdict). on_verdict w o.taken.state f o.held_area u' c')
      (repeated (Verdict.Read l) d refl ((good_reader r ok).setting.lanes l j.numbered).channel o.taken.state (gap-setting r d _) (gap-expects r d _))
  taken (Verdict.Repeat d) j = refl

  second : (v : Verdict) → Judged s f v → Second v (on_verdict (again r f v) r f h u c)
  unfolding on_verdict secondly
  second v j =
      again-cases r f (λ (w : Verdict). Second v (on_verdict w r f h u c)) v (λ n. taken v j)
      (λ d t e. ap (λ (w : Verdict). on_verdict w r f h u' c') (again-taken r f v d t e))

  -- A second copy right after the first changes nothing.
  pub second-copy : areas_short h u c ≡ false → areas_short (read r f h u c).held_area u' c' ≡ false
      → read (read r f h u c).taken.state f (read r f h u c).held_area u' c'
      ≡ unchanged (secondly (read r f h u c).taken.answer.class) (read r f h u c).taken.state (read r f h u c).held_area u' c'
  unfolding read
  second-copy a b =
      let o : Got = read r f h u c in
      let one : verdict r f h u c ≡ again r f (judge s f) = verdict-cond r f h u c ∙ rw (ok, a) in
      let two : verdict o.taken.state f o.held_area u' c' ≡ again o.taken.state f (judge s f) =
      verdict-cond o.taken.state f o.held_area u' c' ∙ rw (read_valid r f h u c ok, b)
      (ap (λ (y : Setting). again o.taken.state f (judge y f)) (read_setting r f h u c)) in
      ap (λ (v : Verdict). on_verdict v o.taken.state f o.held_area u' c') two
      ∙ subst (Second (judge s f)) (ap (λ (v : Verdict). on_verdict v r f h u c) (sym one)) (second (judge s f) (judge-facts s f))
