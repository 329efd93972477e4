-- Laws of one word: where it stands in a line, and what is seen after it.
use Prim.Native.Nat.{ℕ, ◌+◌, ◌-◌, ◌≤◌, ◌<◌}
use mathlib.Core.Path.{◌≡◌, refl, sym, ap, ◌∙◌}
use mathlib.Core.List.{List, []}
use native.Mathlib.Omega.{arith}
use lib.ListN.{length, take, drop, length-drop, drop_of_length-le}
use lib.Seq.{take_all, drop-drop, drop-length}
use Rattle.std.specs.Prelude.{Option}
use Rattle.setting_text.specs.declared.Stop.TheVariants as stop
use Rattle.setting_text.specs.declared.Ask.{Ask}
use Rattle.setting_text.specs.declared.Ask.TheVariants as ask
use Rattle.setting_text.specs.declared.Heard.{Heard}
use Rattle.setting_text.specs.declared.Trace.{Trace}
use Rattle.setting_text.specs.Texts.{stops, until, full, words, first, others}
use Rattle.setting_text.specs.Table.{Item, worth, noted, turned, step}
use Rattle.setting_text.specs.Places.{Word, seen, moved}
use Rattle.setting_text.proofs.Texts.{front, after}

-- All that follows `at`, as a part of the line.
rest_is : (l : List ℕ) (at : ℕ) → take (length l - at) (drop at l) ≡ drop at l
rest_is l at = let h : length (drop at l) ≤ length l - at = simp length-drop (omega arith) in take_all _ _ h

module _ (l : List ℕ) (at : ℕ) where
  pub word_at : (gap size : ℕ) → gap ≡ until (stops stop.Word) (take (length l - at) (drop at l))
      → size ≡ until (stops stop.Blank) (take (length l - (at + gap)) (drop (at + gap) l))
      → at + gap + size ≤ length l → Word l at (at + gap) (at + gap + size)
  word_at gap size g z h = record { word = one; after = two; onward = λ q. omega arith; forward = omega arith; within = h }
    where
      here : drop (until (stops stop.Word) (drop at l)) (drop at l) ≡ drop (at + gap) l
      here = rw (sym (g ∙ ap (until (stops stop.Word)) (rest_is l at))) (drop-drop gap at l)

      long : until (stops stop.Blank) (drop (at + gap) l) ≡ size
      long = sym (z ∙ ap (until (stops stop.Blank)) (rest_is l (at + gap)))

      less : at + gap + size - (at + gap) ≡ size
      less = omega arith

      one : first (words (drop at l)) ≡ take (at + gap + size - (at + gap)) (drop (at + gap) l)
      one = front (drop at l) ∙ rw (here, long, less)

      two : others (words (drop at l)) ≡ words (drop (at + gap + size) l)
      two = after (drop at l) ∙ rw (here, long) (ap words (drop-drop size (at + gap) l))

  pub word_none : length l < at → Word l at (length l) (length l)
  unfolding words first others full
  word_none h =
      let h' : length l ≤ at = omega arith in
      let e : drop at l ≡ [] = drop_of_length-le l h' in
      let f : drop (length l) l ≡ [] = drop-length l in
      let z : length l - length l ≡ 0 = omega arith in
      record { word = rw (e, z); after = rw (e, f); onward = λ q. absurd (omega (arith, q)); forward = omega arith; within = omega arith }

-- ---- a word, held against its place in a line of the table

pub seen_step : (t : Trace) (i : Item) (from to : ℕ) (n : Option ℕ) → Word t.line.now t.at from to
    → n ≡ worth i.ask i.keys (take (to - from) (drop from t.line.now)) → moved to i.ask (noted i.ask i.field n t.now) t ≡ step i (seen t)
unfolding seen step turned
seen_step t i from to n w e = rw (w.word, sym e) (go i.ask (noted i.ask i.field n t.now))
  where
    go : (a : Ask) (h : Heard) → moved to a h t ≡ turned a h (seen t)
    go (ask.Word x) h = rw w.after
    go (ask.Number low high) h = rw w.after
    go (ask.End s) h = refl
