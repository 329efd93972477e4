-- A frame's count: what is missing, what lanes drop, and the state after it.
use mathlib.Core.Path.{◌≡◌, refl, sym, ap, ap₂, ◌∙◌}
use Prim.Native.Nat.{ℕ, zero, suc, ◌+◌, ◌*◌, ◌%◌, ◌^◌, ◌≤◌, ◌<◌}
use native.Mathlib.Nat.{zero-lt-suc, pow-le-pow_right, mod-eq_of_lt, add-zero, add_assoc}
use native.Mathlib.Numerals.{add-one}
use native.Mathlib.Omega.{arith}
use mathlib.Core.Bool.{Bool, true, false, cond}
use mathlib.Core.List.{List, [], ◌∷◌, ◌++◌}
use lib.ListN.{length, get_or, take, drop, set, length-set, length-take, drop_of_length-le, take-append-drop}
use lib.Seq.{length-take-le, get_or-take, drop-cons, take-suc, take-suc-set, drop-set-lt, append_snoc}
use Rattle.rules.specs.declared.Lane.{Lane}
use Rattle.rules.specs.declared.Setting.{Setting}
use Rattle.rules.specs.declared.Slot.{Slot}
use Rattle.rules.specs.declared.Reader.{Reader}
use Rattle.rules.specs.Tests.{◌=?◌}
use Rattle.rules.specs.Settings.{no_lane, no_slot, channel, lane, expect, held_by, reader_ok}
use Rattle.rules.specs.Reading.{emptied, lost, lanes_of, gap_by, gap}
use Rattle.rules.specs.Valid.{GoodReader}
use Rattle.rules.proofs.Valid.{good_reader}
use Rattle.rules.specs.Areas.{held_size, part_size}

-- ---- counts of n octets

pub modulus_is : (n m : ℕ) → n ≤ 7 → m ≡ 256 ^ n % 2 ^ 64 → m ≡ 256 ^ n
modulus_is n m h e =
    let s : 256 ^ n ≤ 256 ^ 7 = pow-le-pow_right (zero-lt-suc 255) h in
    e ∙ mod-eq_of_lt (omega arith)

pub modulus_small : (n : ℕ) → n ≤ 7 → 256 ^ n ≤ 2 ^ 56
modulus_small n h = pow-le-pow_right (zero-lt-suc 255) h

-- ---- a loop over the lanes

pub lane-at : (s : Setting) (i : ℕ) → i < s.numbered → get_or (lanes_of s) i no_lane ≡ lane s i
lane-at s i h = get_or-take s.numbered s.lanes i no_lane h

pub lanes_long : (s : Setting) → s.numbered ≤ 8 → length s.lanes ≡ 8 → length (lanes_of s) ≡ s.numbered
lanes_long s h e = length-take-le s.numbered s.lanes (omega arith)

module _ (p : Lane → Bool) (ls : List Lane) where
  -- The lanes below i have dropped theirs.
  pub record Emptying (hs t : List Slot) (i : ℕ) : Type 0 where
    pub whole : emptied p ls hs ≡ take i t ++ emptied p (drop i ls) (drop i t)
    pub long : length t ≡ length hs

  pub emptying-none : (hs : List Slot) → Emptying hs hs 0
  emptying-none hs = record { whole = refl; long = refl }

  one : (hs t : List Slot) (i : ℕ) → i < length ls → i < length t → Emptying hs t i
      → emptied p ls hs ≡ take i t ++ cond (p (get_or ls i no_lane)) no_slot (get_or t i no_slot) ∷ emptied p (drop (suc i) ls) (drop (suc i) t)
  unfolding emptied
  one hs t i h k w = w.whole ∙ ap₂ (λ (x : List Lane) (y : List Slot). take i t ++ emptied p x y) (drop-cons ls i no_lane h) (drop-cons t i no_slot k)

  pub emptying-drops : (hs t : List Slot) (i : ℕ) → i < length ls → i < length t → p (get_or ls i no_lane) ≡ true → Emptying hs t i
      → Emptying hs (set t i no_slot) (i + 1)
  emptying-drops hs t i h k e w =
      record {
        whole =
            one hs t i h k w ∙ ap (λ (b : Bool). take i t ++ cond b no_slot (get_or t i no_slot) ∷ emptied p (drop (suc i) ls) (drop (suc i) t)) e
            ∙ sym (append_snoc (take i t) no_slot (emptied p (drop (suc i) ls) (drop (suc i) t)))
            ∙ ap₂ (λ (x y : List Slot). x ++ emptied p (drop (suc i) ls) y) (sym (take-suc-set t i no_slot k))
            (sym (drop-set-lt (suc i) t i no_slot (omega arith)))
            ∙ ap (λ (n : ℕ). take n (set t i no_slot) ++ emptied p (drop n ls) (drop n (set t i no_slot))) (sym (add-one i));
        long = length-set t i no_slot ∙ w.long;
      }

  pub emptying-keeps : (hs t : List Slot) (i : ℕ) → i < length ls → i < length t → p (get_or ls i no_lane) ≡ false → Emptying hs t i → Emptying hs t (i + 1)
  emptying-keeps hs t i h k e w =
      record {
        whole =
            one hs t i h k w ∙ ap (λ (b : Bool). take i t ++ cond b no_slot (get_or t i no_slot) ∷ emptied p (drop (suc i) ls) (drop (suc i) t)) e
            ∙ sym (append_snoc (take i t) (get_or t i no_slot) (emptied p (drop (suc i) ls) (drop (suc i) t)))
            ∙ ap (λ (x : List Slot). x ++ emptied p (drop (suc i) ls) (drop (suc i) t)) (sym (take-suc t i no_slot k))
            ∙ ap (λ (n : ℕ). take n t ++ emptied p (drop n ls) (drop n t)) (sym (add-one i));
        long = w.long;
      }

  pub emptying-all : (hs t : List Slot) (i : ℕ) → length ls ≤ i → Emptying hs t i → t ≡ emptied p ls hs
  unfolding emptied
  emptying-all hs t i h w =
      sym (w.whole ∙ ap (λ (x : List Lane). take i t ++ emptied p x (drop i t)) (drop_of_length-le ls h) ∙ take-append-drop i t)

  -- What the lanes below i have dropped.
  pub lost-one : (hs : List Slot) (i n : ℕ) → i < length ls → i < length hs → lost p ls hs ≡ n + lost p (drop i ls) (drop i hs)
      → lost p ls hs ≡ n + cond (p (get_or ls i no_lane)) (get_or hs i no_slot).held 0 + lost p (drop (i + 1) ls) (drop (i + 1) hs)
  unfolding lost
  lost-one hs i n h k w =
      w ∙ ap₂ (λ (x : List Lane) (y : List Slot). n + lost p x y) (drop-cons ls i no_lane h) (drop-cons hs i no_slot k)
      ∙ sym (add_assoc n (cond (p (get_or ls i no_lane)) (get_or hs i no_slot).held 0) (lost p (drop (suc i) ls) (drop (suc i) hs)))
      ∙ ap (λ (m : ℕ). n + cond (p (get_or ls i no_lane)) (get_or hs i no_slot).held 0 + lost p (drop m ls) (drop m hs)) (sym (add-one i))

  pub lost-all : (hs : List Slot) (i n : ℕ) → length ls ≤ i → lost p ls hs ≡ n + lost p (drop i ls) (drop i hs) → n ≡ lost p ls hs
  unfolding lost
  lost-all hs i n h w = sym (w ∙ ap (λ (x : List Lane). n + lost p x (drop i hs)) (drop_of_length-le ls h) ∙ add-zero n)

-- Whether a lane is channel c's.
abbrev pub its : ℕ → Lane → Bool
its c l = l.channel =? c

-- The lanes below i drop n octets.
pub record Losing (ls : List Lane) (c : ℕ) (hs : List Slot) (n i : ℕ) : Type 0 where
  pub whole : lost (its c) ls hs ≡ n + lost (its c) (drop i ls) (drop i hs)
  pub small : n ≤ 65535 * i

-- ---- a gap of a valid state

pub record Takes (r : Reader) (c : ℕ) : Type 0 where
  pub eight : c < 8
  pub seven : (channel r.setting c).octets ≤ 7
  pub count : (expect r c).count < 256 ^ (channel r.setting c).octets
  pub few : r.setting.numbered ≤ 8
  pub held : (l : ℕ) → l < r.setting.numbered → held_by r l ≤ 8192

pub takes : (r : Reader) (c : ℕ) → reader_ok r ≡ true → c < r.setting.listed → Takes r c
takes r c ok h =
    let g = good_reader r ok in
    record {
      eight = omega (arith, g.setting.listed);
      seven = (g.setting.channels c h).seven;
      count = g.counts c h;
      few = g.setting.numbered;
      held = λ l k. omega (arith, (g.slots l k).below, (g.setting.lanes l k).kind.most);
    }

module _ (r : Reader) (c : ℕ) where
  pub gap-none : {n : ℕ} → n ≡ 0 → record { state = r; missing = 0; dropped = 0 } ≡ gap_by r c n
  unfolding gap_by
  gap-none e = rw e

  pub gap-some : (n : ℕ) → (n ≡ 0 → ⊥)
      → record {
        state = record { setting = r.setting; expects = r.expects; slots = emptied (its c) (lanes_of r.setting) r.slots };
        missing = n;
        dropped = lost (its c) (lanes_of r.setting) r.slots;
      } ≡ gap_by r c n
  unfolding gap_by
  gap-some zero q = absurd (q refl)
  gap-some (suc n) q = refl

-- The channel of a lane.
pub lane-channel : (r : Reader) (l : ℕ) → reader_ok r ≡ true → l < r.setting.numbered → (lane r.setting l).channel < r.setting.listed
lane-channel r l ok h = ((good_reader r ok).setting.lanes l h).channel

-- ---- what a gap drops

lost-small : (p : Lane → Bool) (ls : List Lane) (hs : List Slot) → ((i : ℕ) → i < length ls → (get_or hs i no_slot).held ≤ 8192)
    → lost p ls hs ≤ part_size * length ls
unfolding lost
lost-small p [] hs h = omega arith
lost-small p (l ∷ ls) [] h = omega arith
lost-small p (l ∷ ls) (x ∷ hs) h =
    let a : cond (p l) x.held 0 ≤ 8192 = by_cases (p l) in
    let b = lost-small p ls hs (λ i k. h (suc i) (omega arith)) in
    omega arith
  where
    by_cases : (b : Bool) → cond b x.held 0 ≤ 8192
    by_cases true = h 0 (zero-lt-suc (length ls))
    by_cases false = omega arith

gap_by-small : (r : Reader) (c m : ℕ) → lost (its c) (lanes_of r.setting) r.slots ≤ 65536 → (gap_by r c m).dropped ≤ held_size
unfolding gap_by
gap_by-small r c zero h = omega arith
gap_by-small r c (suc m) h = h

pub gap-small : (r : Reader) (c k : ℕ) → GoodReader r → (gap r c k).dropped ≤ held_size
unfolding gap
gap-small r c k g =
    let n = length-take r.setting.numbered r.setting.lanes in
    let few = g.setting.numbered in
    let b = lost-small (its c) (lanes_of r.setting) r.slots
    (λ i h. omega (arith, (g.slots i (omega arith)).below, (g.setting.lanes i (omega arith)).kind.most)) in
    gap_by-small _ c _ (omega arith)
