-- Laws of the lines of a text: there is room for what they list, and they are taken one after another.
use Prim.Native.Nat.{ℕ, suc, ◌+◌, ◌≤◌, ◌<◌}
use mathlib.Core.Path.{◌≡◌, refl, sym, ap, ◌∙◌}
use mathlib.Core.Bool.{Bool, true, false, cond}
use mathlib.Core.List.{List, ◌∷◌}
use native.Mathlib.Omega.{arith}
use lib.ListN.{length, drop, get_or, drop_of_length-le}
use lib.Seq.{drop-cons}
use borrow.Author.Tests.{le-leb, lt-leb}
use Rattle.std.specs.Prelude.{Option, Some, None, Result, Ok, Err}
use Rattle.std.specs.List.{enumerate_from}
use Rattle.std.proofs.lemmas.List.FromFn.{length-enumerate_from, get_or-enumerate_from}
use Rattle.rules.specs.declared.Channel.{Channel}
use Rattle.rules.specs.declared.Lane.{Lane}
use Rattle.rules.specs.Tests.{◌≤?◌, none}
use Rattle.rules.specs.Settings.{no_setting}
use Rattle.rules.specs.Refusals.{channel_at, lane_at}
use Rattle.rules.proofs.Tests.{split}
use Rattle.setting_text.specs.declared.Wanted.{Wanted}
use Rattle.setting_text.specs.declared.Wanted.TheVariants as want
use Rattle.setting_text.specs.declared.Fact.{Fact}
use Rattle.setting_text.specs.declared.Fact.TheVariants as fact
use Rattle.setting_text.specs.declared.Says.{Says}
use Rattle.setting_text.specs.declared.Says.TheVariants as say
use Rattle.setting_text.specs.declared.Misfit.{Misfit}
use Rattle.setting_text.specs.declared.Finding.TheVariants as finds
use Rattle.setting_text.specs.declared.Heard.{Heard}
use Rattle.setting_text.specs.declared.Draft.{Draft}
use Rattle.setting_text.specs.Facts.{nothing, forbid, is_told, with_fact, with_channel, with_lane, ocf_unlike, add_channel, add_lane, add_lane_of, take_heard, take_line, then, line_taken, gather}
use Rattle.setting_text.specs.Texts.{lines}
use Rattle.setting_text.specs.Places.{Room, Gathering}

-- ---- there is room

pub nothing-room : Room nothing
unfolding nothing no_setting
nothing-room = record { channels = omega arith; lanes = omega arith }

abbrev Within : Result Draft Misfit → Type 0
Within (Ok d) = Room d
Within (Err m) = Unit {0}

either-within : (b : Bool) (x y : Result Draft Misfit) → Within x → Within y → Within (cond b x y)
either-within true x y r q = r
either-within false x y r q = q

module _ (d : Draft) (r : Room d) where
  fact-room : (f : Fact) (n : ℕ) → Room (with_fact f n d)
  fact-room fact.Length n = record { channels = r.channels; lanes = r.lanes }
  fact-room fact.Spacecraft n = record { channels = r.channels; lanes = r.lanes }
  fact-room fact.Direction n = record { channels = r.channels; lanes = r.lanes }
  fact-room fact.Insert n = record { channels = r.channels; lanes = r.lanes }
  fact-room fact.Check n = record { channels = r.channels; lanes = r.lanes }

  channel-within : (c : Channel) → Within (add_channel c d)
  channel-within c =
      either-within (none (channel_at d.lists c.vc c.service)) _ (forbid want.NewChannel)
      (either-within (ocf_unlike d.lists c) (forbid want.SameOcf) _ tt last) tt
    where
      last : Within (cond (8 ≤? d.lists.listed) (forbid want.FewerChannels) (Ok (with_channel c d)))
      last =
          split 8 d.lists.listed (λ h. rw (le-leb _ _ h) tt)
          (λ h. rw (lt-leb _ _ h) (record { channels = omega arith; lanes = r.lanes }))

  lane-within : (l : Lane) → Within (add_lane l d)
  lane-within l = either-within (none (lane_at d.lists l.channel l.map)) _ (forbid want.NewMap) last tt
    where
      last : Within (cond (8 ≤? d.lists.numbered) (forbid want.FewerLanes) (Ok (with_lane l d)))
      last =
          split 8 d.lists.numbered (λ h. rw (le-leb _ _ h) tt)
          (λ h. rw (lt-leb _ _ h) (record { channels = r.channels; lanes = omega arith }))

  lane_of-within : (p : Option ℕ) (ns : List ℕ) → Within (add_lane_of p ns d)
  lane_of-within (Some c) ns = lane-within _
  lane_of-within None ns = tt

  heard-within : (s : Result (Option Says) Wanted) (h : Heard) → Within (take_heard s h d)
  heard-within (Err w) h = tt
  heard-within (Ok None) h = r
  heard-within (Ok (Some (say.Fact f))) h = either-within (is_told f d) _ _ tt (fact-room f _)
  heard-within (Ok (Some say.Channel)) h = channel-within _
  heard-within (Ok (Some say.Lane)) h = lane_of-within _ h.numbers

  line-within : (l : List ℕ) → Within (take_line d l)
  unfolding take_line
  line-within l = heard-within _ _

  pub line-room : (l : List ℕ) (e : Draft) → Ok e ≡ take_line d l → Room e
  line-room l e q = go (take_line d l) (line-within l) q
    where
      go : (x : Result Draft Misfit) → Within x → Ok e ≡ x → Room e
      go (Ok y) w z = let k : y ≡ e = cc in rw (sym k) w
      go (Err m) w z = cc

-- ---- lines, with their places

module _ (t : List ℕ) (d : Draft) (n k : ℕ) (l : List ℕ) (goes : gather 1 nothing (lines t) ≡ gather (n + 1) d (drop n (lines t)))
    (h : n < length (enumerate_from 0 (lines t))) (e : (k, l) ≡ get_or (enumerate_from 0 (lines t)) n (k, l)) where
  inside : n < length (lines t)
  inside = omega (arith, h, length-enumerate_from 0 (lines t))

  numbered : ◌≡◌ {A = ℕ × List ℕ} (k, l) (0 + n, get_or (lines t) n l)
  numbered = e ∙ get_or-enumerate_from 0 (lines t) n (k, l) inside

  here : drop n (lines t) ≡ l ∷ drop (suc n) (lines t)
  here =
      drop-cons (lines t) n l inside
      ∙ ap (λ (x : List ℕ). x ∷ drop (suc n) (lines t)) (sym (ap (λ (p : ℕ × List ℕ). p.1) numbered))

  one : (ls : List (List ℕ)) → gather (n + 1) d (l ∷ ls) ≡ then (line_taken (n + 1) (take_line d l)) (λ (x : Draft). gather (n + 1 + 1) x ls)
  unfolding gather
  one ls = refl

  next : (r : Result Draft Misfit) → r ≡ take_line d l
      → gather 1 nothing (lines t) ≡ then (line_taken (n + 1) r) (λ (x : Draft). gather (n + 1 + 1) x (drop (suc n) (lines t)))
  next r w =
      goes ∙ ap (gather (n + 1) d) here ∙ one (drop (suc n) (lines t))
      ∙ ap (λ (y : Result Draft Misfit). then (line_taken (n + 1) y) (λ (x : Draft). gather (n + 1 + 1) x (drop (suc n) (lines t)))) (sym w)

  pub turn : (x : Draft) → Ok x ≡ take_line d l → gather 1 nothing (lines t) ≡ gather (n + 1 + 1) x (drop (n + 1) (lines t))
  turn x w =
      let z : suc n ≡ n + 1 = omega arith in
      next (Ok x) w ∙ ap (λ (j : ℕ). gather (n + 1 + 1) x (drop j (lines t))) z

  pub refused_here : (m : Misfit) → Err m ≡ take_line d l → Gathering t (Err (finds.Line (k + 1) m))
  refused_here m w =
      let z : k + 1 ≡ n + 1 = omega (arith, ap (λ (p : ℕ × List ℕ). p.0) numbered) in
      record { gathered = ap (λ (j : ℕ). Err (finds.Line j m)) z ∙ sym (next (Err m) w); room = tt }

pub all_taken : (t : List ℕ) (d : Draft) (n : ℕ) → gather 1 nothing (lines t) ≡ gather (n + 1) d (drop n (lines t)) → Room d
    → n ≡ length (enumerate_from 0 (lines t)) → Gathering t (Ok d)
unfolding gather
all_taken t d n goes r e =
    let k : length (lines t) ≤ n = omega (arith, length-enumerate_from 0 (lines t)) in
    record { gathered = sym (goes ∙ rw (drop_of_length-le (lines t) k)); room = r }
