-- From frame to frame.
use Prim.Native.Nat.{ℕ, ◌+◌, ◌*◌, ◌≤◌}
use mathlib.Core.Path.{◌≡◌, refl, sym, ap, ap₂, subst, ◌∙◌}
use mathlib.Core.Bool.{Bool, true, false, cond, false≢true}
use mathlib.Core.List.{List, [], ◌∷◌, ◌++◌}
use lib.ListN.{length, take, length-append, replicate}
use native.Mathlib.Omega.{arith}
use borrow.Author.Tests.{ne_eqb}
use Rattle.rules.specs.declared.Answer.{Answer}
use Rattle.rules.specs.declared.Listener.{Listener}
use Rattle.rules.specs.declared.Setting.{Setting}
use Rattle.rules.specs.declared.Verdict.{Verdict}
use Rattle.rules.specs.Settings.{setting_ok, reader_ok}
use Rattle.rules.specs.declared.Passed.{Passed}
use Rattle.rules.specs.Calls.{Got}
use Rattle.rules.specs.Passes.{whose, pass, PassGives}
use Rattle.rules.proofs.Promises.{look_is}
use Rattle.rules.proofs.Calls.{setup_accepted, Small}
use Rattle.rules.proofs.Looks.{pass_valid, pass_fits}
use Rattle.refusals.specs.declared.Totals.{Totals}
use Rattle.unit_table.specs.declared.Origin.{Origin}
use Rattle.unit_table.specs.Rows.{origin_of}
use Rattle.unpack_text.specs.declared.Tally.{Tally}
use Rattle.unpack_text.specs.Lines.{Wrote, frame_line}
use Rattle.unpack.specs.declared.each_frame.Areas.{Areas}
use Rattle.unpack.specs.declared.each_frame.Step.{Step}
use Rattle.unpack.specs.declared.each_frame.Turn.{Turn}
use Rattle.unpack_text.proofs.Cuts.{wrote_front}
use Rattle.unpack.specs.Stages.{Stage, got, ruled, leaves, told, totals_after, advanced, through, begun, Reached}
use Rattle.unpack.specs.Stages.{step_of, stage_of, Went, AreasFit, Gave, Handed, Handled, Turned, Finished, taken, taken_turn, halted_turn, first_turn, goes_on}
use Rattle.std.proofs.Common.{Option, not}
use Rattle.std.specs.Option.{unwrap_or}
use Rattle.rules.specs.Tests.{◌=?◌}
use Rattle.rules.specs.Areas.{held_size, record_size, records_size, units_size}

-- ---- stages

through-more : (g : Stage) (fs : List (List ℕ)) (f : List ℕ) → through g (fs ++ f ∷ []) ≡ advanced (through g fs) f
unfolding through
through-more g [] f = refl
through-more g (x ∷ fs) f = through-more (advanced g x) fs f

advanced_valid : (g : Stage) (f : List ℕ) → reader_ok g.reader ≡ true → reader_ok (advanced g f).reader ≡ true
unfolding advanced got
advanced_valid g f ok = pass_valid g.without g.reader f g.held g.units g.records ok

-- The areas before anything was read.
abbrev pub fresh : Areas
fresh = record { held = replicate held_size 0; units = replicate units_size 0; records = replicate records_size 0 }

pub begins : (w : List Bool) (s : Setting) (u : Turn) → setting_ok s ≡ true → u ≡ first_turn s
    → (u.count ≡ 0) × Reached (stage_of w u fresh) u.count (stage_of w u fresh)
unfolding stage_of first_turn through
begins w s u ok e =
    subst (λ (x : Turn). (x.count ≡ 0) × Reached (stage_of w x fresh) x.count (stage_of w x fresh)) (sym e) (
      refl,
      record {
        frames = [];
        many = refl;
        stage = refl;
        valid = ap (λ (x : Listener). reader_ok x.state)
            (setup_accepted s ok).0 ∙ (setup_accepted s ok).2;
      },
    )

-- Where the frames end, the areas may go.
pub finished : (w : List Bool) (s : Setting) (u u' : Turn) (m : Areas) → u ≡ first_turn s → Reached (stage_of w u fresh) u'.count (stage_of w u' m)
    → Finished w s u'.count u'.state u'.totals
unfolding stage_of first_turn begun
finished w s u u' m e p =
    record {
      held = m.held;
      units = m.units;
      records = m.records;
      reached = subst (λ (x : Turn). Reached (stage_of w x fresh) u'.count (stage_of w u' m)) e p;
    }

-- After one more.
goes : {g₀ : Stage} {k : ℕ} {g : Stage} (f : List ℕ) {g' : Stage} → Reached g₀ k g → g' ≡ advanced g f → Reached g₀ (k + 1) g'
goes {g₀} {k} {g} f p e =
    record {
      frames = p.frames ++ f ∷ [];
      many = omega (arith, length-append p.frames (f ∷ []), p.many);
      stage = e ∙ ap (λ (x : Stage). advanced x f) p.stage ∙ sym (through-more g₀ p.frames f);
      valid = ap (λ (x : Stage). reader_ok x.reader) e ∙ advanced_valid g f p.valid;
    }

-- After a turn, and that one after which there may be more took a frame.
pub turned_on : {g₀ : Stage} {u : Turn} {c : Option ℕ} {g : Stage} {area : List ℕ} {u' : Turn} {g' : Stage} → Reached g₀ u.count g → Turned u c g area u' g'
    → Reached g₀ u'.count g' × (u'.more ≡ true → u'.count ≡ u.count + 1)
unfolding taken_turn halted_turn
turned_on {g₀} {u} {c} {g} {area} {u'} {g'} p t = by (taken c) t.stage t.turn
  where
    by : (b : Bool) → g' ≡ cond b (advanced g (take (unwrap_or c 0) area)) g
        → u' ≡ cond b (taken_turn u (unwrap_or c 0) g'.reader g'.totals u'.went) (halted_turn u c)
        → Reached g₀ u'.count g' × (u'.more ≡ true → u'.count ≡ u.count + 1)
    by true e q =
        let n : u'.count ≡ u.count + 1 = ap (λ (x : Turn). x.count) q in
        (subst (λ (k : ℕ). Reached g₀ k g') (sym n) (goes (take (unwrap_or c 0) area) p e), λ _. n)
    by false e q =
        let n : u'.count ≡ u.count = ap (λ (x : Turn). x.count) q in
        let m : u'.more ≡ false = ap (λ (x : Turn). x.more) q in
        (subst (λ (x : Stage). Reached g₀ u'.count x) (sym e) (subst (λ (k : ℕ). Reached g₀ k g) (sym n) p), λ h. absurd (false≢true (sym m ∙ h)))

-- ---- one turn

module _ (w : List Bool) (u : Turn) where
  pub halts : (c : Option ℕ) (n : ℕ) (m : Areas) (area : List ℕ) {u' : Turn} → n ≡ unwrap_or c 0 → n ≡ 0 → u' ≡ halted_turn u c
      → Turned u c (stage_of w u m) area u' (stage_of w u' m)
  unfolding halted_turn stage_of taken
  halts c n m area o z e =
      let k : taken c ≡ false = ap (λ (x : ℕ). not (x =? 0)) (sym o ∙ z) in
      record { stage = rw k (ap (λ (x : Turn). stage_of w x m) e); turn = rw k e }

  pub takes : (c : Option ℕ) (n : ℕ) (g : Stage) (area : List ℕ) {u' : Turn} {g' : Stage} → n ≡ unwrap_or c 0 → (n ≡ 0 → ⊥)
      → Handled u n g (take n area) u' g' → Turned u c g area u' g'
  unfolding taken
  takes c n g area {u'} {g'} o h t =
      let k : taken c ≡ true = ap (λ (x : ℕ). not (x =? 0)) (sym o) ∙ ap not (ne_eqb n 0 h) in
      record {
        stage = rw k (subst (λ (x : ℕ). g' ≡ advanced g (take x area)) o t.stage);
        turn = rw k (subst (λ (x : ℕ). u' ≡ taken_turn u x g'.reader g'.totals u'.went) o t.turn);
      }

-- ---- one frame

origin_frame : (s : Setting) (t : Tally) (k : ℕ) (v : Verdict) → (origin_of s t k v).frame ≡ k
unfolding origin_of
origin_frame s t k (Verdict.Refused n) = refl
origin_frame s t k Verdict.Idle = refl
origin_frame s t k (Verdict.Counted c) = refl
origin_frame s t k (Verdict.Read l) = refl
origin_frame s t k (Verdict.Repeat c) = refl

-- A frame is passed.
module _ (b : List Bool) (u : Turn) (f : List ℕ) (m m' : Areas) (w : Passed) (p : Step)
    (o : PassGives b u.state f m.held m.units m.records w m'.held m'.units m'.records) (q : p ≡ step_of u.count u.state u.totals w f) where
  abbrev before : Stage
  before = record { without = b; reader = u.state; held = m.held; units = m.units; records = m.records; totals = u.totals }

  abbrev passed : Got
  passed = pass b u.state f m.held m.units m.records

  answer-is : w.taken.answer ≡ passed.taken.answer
  answer-is = ap (λ (x : Got). x.taken.answer) o.got

  verdict-is : whose w.looked ≡ ruled before f
  unfolding ruled
  verdict-is = ap whose (look_is u.state f w.looked o.looked)

  left_is : w.left ≡ leaves before f
  unfolding leaves
  left_is = o.left

  totals-are : totals_after w.left u.state.setting u.totals (whose w.looked) w.taken.answer f
      ≡ totals_after (leaves before f) u.state.setting u.totals (ruled before f) (told before f) f
  unfolding told got
  totals-are =
      ap (λ (x : Bool). totals_after x u.state.setting u.totals (whose w.looked) w.taken.answer f) left_is
      ∙ ap₂ (λ (v : Verdict) (a : Answer). totals_after (leaves before f) u.state.setting u.totals v a f) verdict-is answer-is

  stage_is : record { without = b; reader = p.state; held = m'.held; units = m'.units; records = m'.records; totals = p.totals } ≡ advanced before f
  unfolding step_of advanced got
  stage_is =
      ap (λ (x : Step). record { without = b; reader = x.state; held = m'.held; units = m'.units; records = m'.records; totals = x.totals }) q
      ∙ ap₂
      (λ (x : Got) (t : Totals).
      record { without = b; reader = x.taken.state; held = x.held_area; units = x.unit_area; records = x.record_area; totals = t })
      o.got totals-are

  -- What it gave fits the areas.
  pub gives : AreasFit u.count m.units m.records → length m'.units ≡ length m.units → length m'.records ≡ length m.records
      → Gave p.origin p.left p.verdict p.answer m'.units m'.records
  unfolding step_of told got
  gives fit l k =
      let r = u.state.setting in
      let t = u.totals.tally in
      let s : Small passed.taken.answer = pass_fits b u.state f m.held m.units m.records in
      let a : p.answer ≡ passed.taken.answer = ap (λ (x : Step). x.answer) q ∙ answer-is in
      record {
        stage = before;
        frame = f;
        left = ap (λ (x : Step). x.left) q ∙ left_is;
        whose = ap (λ (x : Step). x.verdict) q ∙ verdict-is;
        answer = a;
        origin =
            subst (λ (x : Step). x.origin ≡ origin_of r t x.origin.frame x.verdict) (sym q)
            (ap (λ (i : ℕ). origin_of r t i (whose w.looked)) (sym (origin_frame r t u.count (whose w.looked))));
        units = ap (λ (x : Stage). x.units) stage_is;
        records = ap (λ (x : Stage). x.records) stage_is;
        room = (
          omega (arith, s.octets, ap (λ (x : Answer). x.octets) a, fit.units),
          omega (arith, s.records, ap (λ (x : Answer). x.units) a),
          omega (arith, fit.records),
        );
      }

  pub handles : (n : ℕ) (went : Went) (u' : Turn) → u' ≡ taken_turn u n p.state p.totals went → Handled u n (stage_of b u m) f u' (stage_of b u' m')
  unfolding taken_turn stage_of
  handles n went u' v =
      record {
        stage = ap (λ (x : Turn). stage_of b x m') v ∙ stage_is;
        turn = subst (λ (x : Turn). x ≡ taken_turn u n x.state x.totals x.went) (sym v) refl;
      }

-- What is cut out of the areas, as they were left, is what is handed out.
pub handed : {o : Origin} {l : Bool} {v : Verdict} {a : Answer} {us cs area area' : List ℕ} {end : ℕ} → Gave o l v a us cs
    → Wrote 176 (frame_line o.frame l v a) area 0 area' end → Handed o v a (take end area') (take a.octets us) (take (record_size * a.units) cs)
handed {o = o} {v = v} {a = a} g w =
    record {
      line = wrote_front w ∙ ap (λ (x : Bool). frame_line o.frame x v a) g.left;
      stage = g.stage;
      frame = g.frame;
      whose = g.whose;
      answer = g.answer;
      origin = g.origin;
      units = ap (take a.octets) g.units;
      records = ap (take (record_size * a.units)) g.records;
    }

-- A frame gives no more units than the table has room for.
pub handed-few : {o : Origin} {v : Verdict} {a : Answer} {l u c : List ℕ} → Handed o v a l u c → a.units ≤ 2048
unfolding told got
handed-few {a = a} h =
    let g = h.stage in
    let s : Small (pass g.without g.reader h.frame g.held g.units g.records).taken.answer
    = pass_fits g.without g.reader h.frame g.held g.units g.records in
    omega (arith, s.units, ap (λ (x : Answer). x.units) h.answer)

-- Where there may be more, a frame was whole; and there is a table where lines go to it.
pub goes-whole : (t : Bool) (w : Went) → goes_on t w ≡ true → t ≡ true
unfolding goes_on
goes-whole true w e = refl
goes-whole false w e = e
