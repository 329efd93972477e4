-- Laws of the table: what is heard of a line stays in its bounds.
use Prim.Native.Nat.{ℕ, zero, suc, ◌+◌, ◌≤◌, ◌<◌}
use mathlib.Core.Path.{◌≡◌, refl, ap, ◌∙◌}
use mathlib.Core.Bool.{Bool, true, false, cond, ◌&&◌}
use mathlib.Core.List.{List, [], ◌∷◌}
use native.Mathlib.Omega.{arith}
use lib.ListN.{length, get_or, set, replicate}
use lib.Seq.{set_out, get_or-set_same, get_or-set_other}
use borrow.Author.Tests.{leb-true}
use Rattle.std.specs.Prelude.{Option, Some, None, Result, Ok, Err}
use Rattle.rules.specs.Tests.{◌≤?◌, ◌<?◌}
use Rattle.rules.specs.Listing.{text}
use Rattle.rules.proofs.Tests.{split, same, and_left, and_right}
use Rattle.setting_text.specs.declared.Wanted.{Wanted}
use Rattle.setting_text.specs.declared.Wanted.TheVariants as want
use Rattle.setting_text.specs.declared.Says.{Says}
use Rattle.setting_text.specs.declared.Field.{Field}
use Rattle.setting_text.specs.declared.Ask.{Ask}
use Rattle.setting_text.specs.declared.Ask.TheVariants as ask
use Rattle.setting_text.specs.declared.Heard.{Heard}
use Rattle.setting_text.specs.declared.Trace.{Trace}
use Rattle.setting_text.specs.Texts.{first, number_of}
use Rattle.setting_text.specs.Texts as texts
use Rattle.setting_text.specs.Table.{index, Item, item, frame_lines, part_lines, channel_line, lane_head, packets_end, access_end, lane_lines, table, place, in_range, worth, fresh, put, noted_after, noted, Seen, turned, step, follow, through, heard}
use Rattle.setting_text.specs.Places.{most, Bounded, Sound, seen}

-- ---- each item keeps its bounds

-- One more than the largest number.
abbrev below : Ask → List (List ℕ) → ℕ
below (ask.Word w) k = length k
below (ask.Number low high) k = suc high
below (ask.End s) k = 1

-- Every number below n fits the field.
abbrev fits : Option Field → ℕ → Bool
fits None n = true
fits (Some f) n = n ≤? suc (get_or most (index f) 0)

abbrev fine : Item → Bool
fine i = fits i.field (below i.ask i.keys)

abbrev all_fine : List Item → Bool
all_fine [] = true
all_fine (i ∷ is) = fine i && all_fine is

abbrev parts_fine : List (List Item) → Bool
parts_fine [] = true
parts_fine (p ∷ ps) = all_fine p && parts_fine ps

table-fine : parts_fine table ≡ true
unfolding text item frame_lines part_lines channel_line lane_head packets_end access_end table
table-fine = refl

-- ---- a word that fits has a number below its bound

place-below : (n : ℕ) (w : List ℕ) (ks : List (List ℕ)) (m : ℕ) → place n w ks ≡ Some m → m < n + length ks
unfolding place
place-below n w [] m e = cc
place-below n w (k ∷ ks) m e = go (texts.same w k) e (place-below (n + 1) w ks m)
  where
    go : (b : Bool) → cond b (Some n) (place (n + 1) w ks) ≡ Some m → (place (n + 1) w ks ≡ Some m → m < n + 1 + length ks)
        → m < n + suc (length ks)
    go true q h = let z : n ≡ m = cc in omega arith
    go false q h = omega (arith, h q)

cond-some : (b : Bool) (m n : ℕ) → cond b (Some m) None ≡ Some n → (b ≡ true) × (m ≡ n)
cond-some true m n e = (refl, cc)
cond-some false m n e = cc

worth-below : (a : Ask) (k : List (List ℕ)) (w : List ℕ) (n : ℕ) → worth a k w ≡ Some n → n < below a k
worth-below (ask.Word t) k w n e = omega (arith, place-below 0 w k n e)
worth-below (ask.Number low high) k w n e = go (number_of w) e
  where
    go : (o : Option ℕ) → in_range low high o ≡ Some n → n < suc high
    go None q = cc
    go (Some m) q =
        let z = cond-some (low ≤? m && m ≤? high) m n q in
        omega (arith, leb-true m high (and_right (low ≤? m) (m ≤? high) z.0), z.1)
worth-below (ask.End s) k w n e = let z = cond-some (texts.same w []) 0 n e in omega (arith, z.1)

-- ---- what is heard stays in bounds

bounded-set : (ns : List ℕ) (f n : ℕ) → Bounded ns → n ≤ get_or most f 0 → Bounded (set ns f n)
bounded-set ns f n h q k =
    same k f
    (λ e. rw e (split (length ns) f (λ o. rw (set_out ns f n o) (h f)) (λ l. rw (get_or-set_same ns f n 0 l) q)))
    (λ e. rw (get_or-set_other ns f k n 0 e) (h k))

zeros : (n k : ℕ) → ◌≡◌ {A = ℕ} (get_or (replicate n 0) k 0) 0
zeros zero k = refl
zeros (suc n) zero = refl
zeros (suc n) (suc k) = zeros n k

fresh-sound : (r : Result (Option Says) Wanted) → Sound (fresh r)
fresh-sound r = record { numbers = λ k. rw (zeros 12 k) (omega arith) }

put-bounded : (f : Option Field) (n b : ℕ) (ns : List ℕ) → Bounded ns → n < b → fits f b ≡ true → Bounded (put f n ns)
put-bounded None n b ns h l e = h
put-bounded (Some f) n b ns h l e = bounded-set ns (index f) n h (omega (arith, leb-true _ _ e))

module _ (i : Item) (f : fine i ≡ true) where
  noted-sound : (w : List ℕ) (h : Heard) → Sound h → Sound (noted i.ask i.field (worth i.ask i.keys w) h)
  noted-sound w h s = go h.says (worth i.ask i.keys w) refl
    where
      go : (r : Result (Option Says) Wanted) (o : Option ℕ) → worth i.ask i.keys w ≡ o → Sound (noted_after r i.ask i.field o h)
      go (Err e) o q = s
      go (Ok x) None q = record { numbers = s.numbers }
      go (Ok x) (Some n) q =
          record { numbers = put-bounded i.field n (below i.ask i.keys) h.numbers s.numbers (worth-below i.ask i.keys w n q) f }

record Both (s : Seen) : Type 0 where
  now : Sound s.now
  best : Sound s.best

step-sound : (i : Item) (s : Seen) → fine i ≡ true → Both s → Both (step i s)
unfolding step turned
step-sound i s f q = go i.ask (noted-sound i f (first s.rest) s.now q.now)
  where
    better : (b : Bool) (h : Heard) → Sound h → Sound (cond b h s.best)
    better true h sound = sound
    better false h sound = q.best

    go : (a : Ask) {h : Heard} → Sound h → Both (turned a h s)
    go (ask.Word w) sound = record { now = sound; best = q.best }
    go (ask.Number low high) sound = record { now = sound; best = q.best }
    go (ask.End e) sound = record { now = fresh-sound (Ok None); best = better (s.best.count <? _) _ sound }

follow-sound : (is : List Item) (s : Seen) → all_fine is ≡ true → Both s → Both (follow is s)
unfolding follow
follow-sound [] s e q = q
follow-sound (i ∷ is) s e q =
    follow-sound is (step i s) (and_right (fine i) (all_fine is) e) (step-sound i s (and_left (fine i) (all_fine is) e) q)

through-sound : (ps : List (List Item)) (s : Seen) → parts_fine ps ≡ true → Both s → Both (through ps s)
unfolding through
through-sound [] s e q = q
through-sound (p ∷ ps) s e q =
    through-sound ps (follow p s) (and_right (all_fine p) (parts_fine ps) e) (follow-sound p s (and_left (all_fine p) (parts_fine ps) e) q)

pub heard-sound : (ws : List (List ℕ)) → Sound (heard ws)
unfolding heard
heard-sound ws = (through-sound table _ table-fine (record { now = fresh-sound (Ok None); best = fresh-sound (Err _) })).best

-- ---- one part of the table after another

module _ (ws : List (List ℕ)) (t a b c d : Trace) where
  pub hears : seen t ≡ record { all = ws; rest = ws; now = fresh (Ok None); best = fresh (Err want.Fact) } → seen a ≡ follow frame_lines (seen t)
      → seen b ≡ follow part_lines (seen a) → seen c ≡ follow channel_line (seen b) → seen d ≡ through lane_lines (seen c) → d.best ≡ heard ws
  unfolding heard through table seen
  hears p0 p1 p2 p3 p4 = ap (λ (s : Seen). s.best) all
    where
      all : seen d ≡ through table (record { all = ws; rest = ws; now = fresh (Ok None); best = fresh (Err want.Fact) })
      all = p4 ∙ rw (p3, p2, p1, p0)
