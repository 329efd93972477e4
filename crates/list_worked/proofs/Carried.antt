-- From frame to frame: the listing of what follows goes on from the state and the areas that a read leaves.
use Prim.Native.Nat.{ℕ, suc, ◌+◌}
use mathlib.Core.Path.{◌≡◌, refl, sym, ap, subst, ◌∙◌}
use mathlib.Core.List.{List, [], ◌++◌, append_assoc}
use lib.ListN.{length, replicate, length-append}
use native.Mathlib.Nat.{zero-add}
use native.Mathlib.Omega.{arith}
use borrow.Author.Tests.{ne_eqb}
use Rattle.std.proofs.Common.{Option, Continue}
use Rattle.std.specs.ControlFlow.{ForContinue}
use Rattle.rules.specs.declared.Listener.{Listener}
use Rattle.rules.specs.declared.Answer.{Answer}
use Rattle.rules.specs.declared.Reader.{Reader}
use Rattle.rules.specs.declared.Setting.{Setting}
use Rattle.rules.specs.Calls.{set_up_reader, Got, read}
use Rattle.rules.specs.Promises.{ReaderStarts}
use Rattle.rules.proofs.Promises.{reader-starts-is}
use Rattle.rules.specs.Listing.{line, lines}
use Rattle.rules.specs.Worked.{worked, packet_lane}
use Rattle.rules.specs.Settings.{setting_ok, ranges_ok, channels_ok, channel_ok, channels_agree, lanes_ok, lane_ok, lanes_differ, kind_ok, zone, fresh_reader, no_reader, no_setting}
use Rattle.rules.specs.Tests.{every, all}
use lib.Seq.{take_at, drop_at}
use Rattle.rules.proofs.Calls.{read_setting}
use Rattle.list_worked.specs.Runs.{lines_of, Reached, Listed}
use Rattle.rules.specs.Areas.{held_size, records_size, units_size}

-- One whole frame's line, then the lines of the rest.
lines_step : (n k : ℕ) (r : Reader) (h u c f rest : List ℕ) → r.setting.length ≡ 32 → length f ≡ 32
    → lines (suc n) k r h u c (f ++ rest)
    ≡ line k (read r f h u c).taken.answer
    ++ lines n (k + 1) (read r f h u c).taken.state (read r f h u c).held_area (read r f h u c).unit_area (read r f h u c).record_area rest
unfolding lines
lines_step n k r h u c f rest s e =
    let z : (length (f ++ rest) ≡ 0) → ⊥ = λ q. omega (arith, length-append f rest) in
    rw (ne_eqb (length (f ++ rest)) 0 z, take_at f rest r.setting.length (e ∙ sym s), drop_at f rest r.setting.length (e ∙ sym s))

-- Before the first frame.
pub begins : Reached 0 (set_up_reader (worked packet_lane)).state (replicate held_size 0) (replicate units_size 0) (replicate records_size 0)
unfolding lines_of set_up_reader setting_ok ranges_ok channels_ok channel_ok channels_agree lanes_ok lane_ok lanes_differ kind_ok zone every all fresh_reader no_reader no_setting worked
begins = record { seen = []; said = []; whole = refl; framed = refl; goes = λ n rest. ap (λ (m : ℕ). lines_of m rest) (zero-add n) }

-- After one more, whichever state is the one handed on.
pub carried : (k : ℕ) (r : Reader) (h u c f area : List ℕ) (a : Answer) (r' : Reader) (h' u' c' area' : List ℕ) (end : ℕ)
    → Reached k r h u c → length f ≡ 32 → Listed k (read r f h u c) area a r' h' u' c' area' end
    → ForContinue {B = Option ℕ} (Continue r') (λ s. Reached (k + 1) s h' u' c')
carried k r h u c f area a r' h' u' c' area' end p e l s on =
    let same : r' ≡ s = cc in
    subst (λ (x : Reader). Reached (k + 1) x h' u' c') same (record {
      seen = p.seen ++ f;
      said = p.said ++ line k (read r f h u c).taken.answer;
      whole = omega (arith, length-append p.seen f, p.whole);
      framed = ap (λ (x : Reader). x.setting.length) l.state ∙ ap (λ (x : Setting). x.length) (read_setting r f h u c) ∙ p.framed;
      goes = goes_on;
    })
  where
    goes_on : (n : ℕ) (rest : List ℕ) → lines_of (k + 1 + n) (p.seen ++ f ++ rest) ≡ p.said ++ line k (read r f h u c).taken.answer ++ lines n
        (k + 1) r' h' u' c' rest
    goes_on n rest =
        let o : Got = read r f h u c in
        let m : k + 1 + n ≡ k + suc n = omega arith in
        ap (λ (x : ℕ). lines_of x (p.seen ++ f ++ rest)) m
        ∙ ap (lines_of (k + suc n)) (append_assoc p.seen f rest)
        ∙ p.goes (suc n) (f ++ rest)
        ∙ ap (λ (x : List ℕ). p.said ++ x) (lines_step n k r h u c f rest p.framed e)
        ∙ sym (append_assoc p.said (line k o.taken.answer) (lines n (k + 1) o.taken.state o.held_area o.unit_area o.record_area rest))
        ∙ ap (λ (x : Reader). p.said ++ line k o.taken.answer ++ lines n (k + 1) x o.held_area o.unit_area o.record_area rest) (sym l.state)
        ∙ ap (λ (x : List ℕ). p.said ++ line k o.taken.answer ++ lines n (k + 1) r' x o.unit_area o.record_area rest) (sym l.held)
        ∙ ap (λ (x : List ℕ). p.said ++ line k o.taken.answer ++ lines n (k + 1) r' h' x o.record_area rest) (sym l.units)
        ∙ ap (λ (x : List ℕ). p.said ++ line k o.taken.answer ++ lines n (k + 1) r' h' u' x rest) (sym l.records)

-- The program's set-up stands before the first frame.
pub begins-from : (s : Setting) (l : Listener) → s ≡ worked packet_lane → ReaderStarts s l → Reached 0 l.state (replicate held_size 0)
    (replicate units_size 0) (replicate records_size 0)
begins-from s l e q =
    subst (λ (x : Listener). Reached 0 x.state (replicate held_size 0) (replicate units_size 0) (replicate records_size 0))
    (sym (reader-starts-is s l q ∙ ap set_up_reader e)) begins
