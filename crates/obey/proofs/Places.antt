-- A look names no place past 7, so the number of a place that it names is the place and one.
use mathlib.Core.Path.{◌≡◌, refl}
use Prim.Native.Nat.{ℕ, ◌+◌}
use native.Mathlib.Omega.{arith}
use mathlib.Core.Bool.{Bool, true, false, cond, not}
use mathlib.Core.List.{List}
use borrow.Author.Tests.{lt-ltb}
use Rattle.rules.specs.declared.Reader.{Reader}
use Rattle.rules.specs.declared.Looked.{Looked}
use Rattle.std.specs.Prelude.{Option}
use Rattle.std.specs.Prelude.{Some}
use Rattle.rules.specs.declared.Verdict.{Verdict}
use Rattle.rules.specs.Settings.{reader_ok}
use Rattle.rules.specs.Refusals.{judge}
use Rattle.rules.specs.Calls.{again, on_look, look}
use Rattle.rules.specs.Valid.{Inside}
use Rattle.rules.proofs.Valid.{good_reader}
use Rattle.rules.proofs.Judged.{Judged, judge-facts}
use Rattle.rules.proofs.Calls.{again-judged}
use Rattle.rules.proofs.Looks.{looked-cond}
use Rattle.obey.specs.Requests.{place_number}

-- The places of a look's answer are in lists of eight.
abbrev Near : Looked → Type 0
Near o = (Inside 8 o.channel) × (Inside 8 o.lane)

place-told : (p : Option ℕ) → Inside 8 p → (i : ℕ) → p ≡ Some i → place_number p ≡ i + 1
unfolding place_number
place-told p h i e = rw (e, lt-ltb _ _ (rw e at h))

module _ (r : Reader) (f : List ℕ) where
  judged-near : reader_ok r ≡ true → (v : Verdict) → Judged r.setting f v → Near (on_look v r f)
  unfolding on_look
  judged-near e (Verdict.Refused n) j = (tt, tt)
  judged-near e Verdict.Idle j = (tt, tt)
  judged-near e (Verdict.Counted c) j = (omega (arith, j.0, (good_reader r e).setting.listed), tt)
  judged-near e (Verdict.Read l) j =
      let g = (good_reader r e).setting in
      (omega (arith, (g.lanes l j.numbered).channel, g.listed), omega (arith, j.numbered, g.numbered))
  judged-near e (Verdict.Repeat c) j = (omega (arith, j.0, (good_reader r e).setting.listed), tt)

  near : Near (look r f)
  unfolding look
  near = rw (looked-cond r f) (go (reader_ok r) refl)
    where
      go : (b : Bool) → reader_ok r ≡ b → Near (on_look (cond (not b) (Verdict.Refused 1) (again r f (judge r.setting f))) r f)
      go true e = judged-near e _ (again-judged r f (good_reader r e) _ (judge-facts r.setting f))
      go false e = unfold on_look in (tt, tt)

  pub channel-told : (i : ℕ) → (look r f).channel ≡ Some i → place_number (look r f).channel ≡ i + 1
  channel-told = place-told _ near.0

  pub lane-told : (i : ℕ) → (look r f).lane ≡ Some i → place_number (look r f).lane ≡ i + 1
  lane-told = place-told _ near.1
