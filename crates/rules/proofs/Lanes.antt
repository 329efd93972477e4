-- What a lane makes of a zone: every octet goes somewhere, few units come out, and fewer octets are held than the longest unit has.
use mathlib.Core.Path.{◌≡◌, refl, sym, ap, ap₂, ◌∙◌}
use Prim.Native.Nat.{ℕ, zero, suc, ◌+◌, ◌-◌, ◌*◌, ◌≤◌, ◌<◌}
use native.Mathlib.Nat.{not-suc-le-zero, le_refl, add-zero}
use native.Mathlib.Omega.{arith}
use mathlib.Core.Bool.{Bool, true, false, cond, false≢true}
use mathlib.Core.List.{List, [], ◌∷◌, ◌++◌, append-nil, map-append}
use lib.ListN.{length, take, drop, length-append, length-take, length-drop, take-append-drop}
use lib.Seq.{length-take-le}
use borrow.Author.Tests.{leb-true, leb-false, ltb-true, eqb-true}
use Rattle.rules.specs.declared.Kind.{Kind}
use Rattle.rules.specs.declared.Kind.TheVariants.{Packets, Access}
use Rattle.std.specs.Prelude.{Option, Some, None}
use Rattle.rules.specs.declared.Measure.{Measure}
use Rattle.rules.specs.declared.Next.{Next}
use Rattle.rules.specs.declared.Next.TheVariants.{Give, Skip, Keep, Lose}
use Rattle.rules.specs.declared.Fate.{Fate}
use Rattle.rules.specs.declared.Fate.TheVariants.{Hand, Blank, Hold, Drop}
use Rattle.rules.specs.Tests.{◌≤?◌, ◌<?◌, ◌=?◌}
use Rattle.rules.specs.Areas.{joined}
use Rattle.rules.specs.Packets.{measure}
use Rattle.rules.specs.Reading.{DataUnit, no_unit, carries, unit_from, unit_of, octets_of, Made, nothing, drops, fills, hands, idles, both, become, end_fate, too_long, cut_fate, joined_fate, lead_fate, lead, sized_next, cut_next, next_of, front, walk_up_to, walk, packet_lane, unit_fate, follow_fate, portion, access_lane, lane_step}
use Rattle.rules.proofs.Areas.{joined_append}
use Rattle.rules.proofs.Measures.{measure-cases, measure-none}
use Rattle.rules.specs.Valid.{least}

-- ---- what the decisions can be: to show something of one, show it of each case with what holds there

-- What becomes of the packet at the front of some octets. One that is held has fewer octets here than the longest.
sized-cases : (P : Next → Type 0) (longest k n : ℕ) (done : Next) → (k ≤ longest → k ≤ n → P done) → (n < longest → P Keep) → P Lose
    → P (sized_next longest k n done)
unfolding sized_next
sized-cases P longest k n done whole keep lose = go (k ≤? longest) refl (k ≤? n) refl
  where
    go : (p : Bool) → k ≤? longest ≡ p → (q : Bool) → k ≤? n ≡ q → P (cond p (cond q done Keep) Lose)
    go true e true f = whole (leb-true _ _ e) (leb-true _ _ f)
    go true e false f = let a : k ≤ longest = leb-true _ _ e in let b : n < k = leb-false _ _ f in keep (omega arith)
    go false e q f = lose

-- One whose size is not known is held, or is too long.
cut-cases : {X : Type 0} (P : X → Type 0) (longest n : ℕ) (held long : X) → (n < longest → P held) → P long → P (cond (too_long longest n) long held)
cut-cases P longest n held long keep lose = go (too_long longest n) refl
  where
    go : (t : Bool) → too_long longest n ≡ t → P (cond t long held)
    go true e = lose
    go false e = keep (leb-false _ _ e)

pub next-cases : (P : Next → Type 0) (longest : ℕ) (xs : List ℕ) → ((n : ℕ) → 2 ≤ n → n ≤ length xs → n ≤ longest → P (Give n))
    → ((n : ℕ) → 1 ≤ n → n ≤ length xs → n ≤ longest → P (Skip n)) → (length xs < longest → P Keep) → P Lose
    → P (next_of longest (measure xs) (length xs))
unfolding next_of cut_next
next-cases P longest xs give skip keep lose =
    measure-cases (λ (m : Measure). P (next_of longest m (length xs))) xs (λ k. cut-cases P longest (length xs) Keep Lose keep lose)
    (λ f n h. sized-cases P longest n (length xs) (Give n) (λ a b. give n h b a) keep lose)
    (λ n h. sized-cases P longest n (length xs) (Skip n) (λ a b. skip n h b a) keep lose)
    lose

-- What becomes of n octets, held ones and a lead. They are held only where the packet may go on.
end-cases : (P : Fate → Type 0) (longest : ℕ) (on : Bool) (k n : ℕ) (done : Fate) → (n ≤ longest → P done)
    → (on ≡ true → n < longest → P Hold) → P Drop → P (end_fate longest on k n done)
unfolding end_fate
end-cases P longest on k n done whole hold drop = go (k ≤? longest) refl (k =? n) refl on refl (n <? k) refl
  where
    go : (p : Bool) → k ≤? longest ≡ p → (q : Bool) → k =? n ≡ q → (o : Bool) → on ≡ o → (r : Bool) → n <? k ≡ r
        → P (cond p (cond q done (cond o (cond r Hold Drop) Drop)) Drop)
    go true e true f o g r i = let a : k ≤ longest = leb-true _ _ e in let b : k ≡ n = eqb-true _ _ f in whole (omega arith)
    go true e false f true g true i = let a : k ≤ longest = leb-true _ _ e in let b : n < k = ltb-true _ _ i in hold g (omega arith)
    go true e false f true g false i = drop
    go true e false f false g r i = drop
    go false e q f o g r i = drop

pub lead-cases : (P : Fate → Type 0) (longest : ℕ) (on : Bool) (held xs : List ℕ) → (length held + length xs ≤ longest → P Hand) → P Blank
    → (on ≡ true → length held + length xs < longest → P Hold) → P Drop
    → P (lead_fate longest on (measure (held ++ xs)) (length held) (length xs))
unfolding lead_fate joined_fate cut_fate
lead-cases P longest on held xs hand blank hold drop = go (length held =? 0) (length xs =? 0)
  where
    n : ℕ
    n = length held + length xs

    lack : (o : Bool) → on ≡ o → P (cond o (cond (too_long longest n) Drop Hold) Drop)
    lack true g = cut-cases P longest n Hold Drop (hold g) drop
    lack false g = drop

    go : (a b : Bool) → P (cond a Drop (cond b Drop (joined_fate longest on (measure (held ++ xs)) n)))
    go true b = drop
    go false true = drop
    go false false =
        measure-cases (λ (m : Measure). P (joined_fate longest on m n)) (held ++ xs) (λ k. lack on refl)
        (λ f k h. end-cases P longest on k n Hand hand hold drop)
        (λ k h. end-cases P longest on k n Blank (λ l. blank) hold drop)
        drop

-- What becomes of n octets of an access unit.
pub unit-cases : (P : Fate → Type 0) (longest : ℕ) (finished : Bool) (n : ℕ) → (n ≤ longest → P Hand) → (n < longest → P Hold) → P Drop
    → P (unit_fate longest finished n)
unfolding unit_fate
unit-cases P longest finished n hand hold drop = go finished (n ≤? longest) refl (n <? longest) refl
  where
    go : (a b : Bool) → n ≤? longest ≡ b → (c : Bool) → n <? longest ≡ c → P (cond a (cond b Hand Drop) (cond c Hold Drop))
    go true true e c f = hand (leb-true _ _ e)
    go true false e c f = drop
    go false b e true f = hold (ltb-true _ _ f)
    go false b e false f = drop

pub follow-cases : (P : Fate → Type 0) (longest : ℕ) (finished : Bool) (h n : ℕ) → (h + n ≤ longest → P Hand) → (h + n < longest → P Hold) → P Drop
    → P (follow_fate longest finished h n)
unfolding follow_fate
follow-cases P longest finished h n hand hold drop = go (h =? 0)
  where
    go : (a : Bool) → P (cond a Drop (unit_fate longest finished (h + n)))
    go true = drop
    go false = unit-cases P longest finished (h + n) hand hold drop

-- ---- the walk's own equation: no count of packets in it

module _ (longest : ℕ) where
  front_same : (xs : List ℕ) (f g : List ℕ → Made) → ((ys : List ℕ) → length ys < length xs → f ys ≡ g ys)
      → front (next_of longest (measure xs) (length xs)) xs f ≡ front (next_of longest (measure xs) (length xs)) xs g
  front_same xs f g h =
      next-cases (λ (s : Next). front s xs f ≡ front s xs g) longest xs
      (λ n a b c. ap (hands (unit_of (take n xs))) (h (drop n xs) (rw length-drop (omega arith))))
      (λ n a b c. ap (idles n) (h (drop n xs) (rw length-drop (omega arith)))) (λ k. refl) refl

  none_left : (n : ℕ) (xs : List ℕ) → length xs ≤ 0 → walk_up_to longest n xs ≡ nothing
  unfolding walk_up_to next_of cut_next carries
  none_left zero xs h = refl
  none_left (suc n) [] h = rw measure-none (by (too_long longest 0))
    where
      by : (t : Bool) → front (cond t Lose Keep) [] (walk_up_to longest n) ≡ nothing
      by true = refl
      by false = refl
  none_left (suc n) (x ∷ xs) h = absurd (not-suc-le-zero h)

  enough : (n m : ℕ) (xs : List ℕ) → length xs ≤ n → length xs ≤ m → walk_up_to longest n xs ≡ walk_up_to longest m xs
  unfolding walk_up_to
  enough zero m xs h k = sym (none_left m xs h)
  enough (suc n) zero xs h k = none_left (suc n) xs k
  enough (suc n) (suc m) xs h k = front_same xs (walk_up_to longest n) (walk_up_to longest m) (λ ys l. enough n m ys (omega arith) (omega arith))

  pub walk-front : (xs : List ℕ) → walk longest xs ≡ front (next_of longest (measure xs) (length xs)) xs (walk longest)
  unfolding walk walk_up_to
  walk-front xs =
      enough (length xs) (suc (length xs)) xs (le_refl _) (omega arith)
      ∙ front_same xs (walk_up_to longest (length xs)) (walk longest) (λ ys l. enough (length xs) (length ys) ys (omega arith) (le_refl _))

-- ---- where the octets go

-- All octets that something is said of.
unfoldable pub total : Made → ℕ
total m = length (joined (octets_of m.units)) + (length m.held.octets + (m.idle + (m.fill + m.dropped)))

-- Units one after the other, back to back.
pub octets_append : (us vs : List DataUnit) → joined (octets_of (us ++ vs)) ≡ joined (octets_of us) ++ joined (octets_of vs)
octets_append us vs = ap joined (map-append (λ (u : DataUnit). u.octets) us vs) ∙ joined_append (octets_of us) (octets_of vs)

pub octets_both : (us vs : List DataUnit) → length (joined (octets_of (us ++ vs))) ≡ length (joined (octets_of us)) + length (joined (octets_of vs))
octets_both us vs = ap length (octets_append us vs) ∙ length-append (joined (octets_of us)) (joined (octets_of vs))

both-total : (a b : Made) → a.held ≡ no_unit → total (both a b) ≡ total a + total b
unfolding total both
both-total a b h =
    let z : length a.held.octets ≡ 0 = ap (λ (u : DataUnit). length u.octets) h in
    let j = octets_both a.units b.units in
    omega arith

become-total : (f : Fate) (u : DataUnit) → total (become f u) ≡ length u.octets
unfolding total joined
become-total Hand u = ap (λ (x : List ℕ). length x + 0) (append-nil u.octets) ∙ add-zero (length u.octets)
become-total Blank u = omega arith
become-total Hold u = omega arith
become-total Drop u = omega arith

-- Only a lead that may go on is held.
pub lead-held : (longest : ℕ) (held : DataUnit) (xs : List ℕ) → (lead longest false held xs).held ≡ no_unit
unfolding lead
lead-held longest held xs =
    lead-cases (λ (f : Fate). (become f (unit_from held xs)).held ≡ no_unit) longest false held.octets xs (λ h. refl) refl (λ e h. absurd (false≢true e)) refl

module _ (longest : ℕ) where
  front-total : (xs : List ℕ) (rest : List ℕ → Made) → ((ys : List ℕ) → length ys < length xs → total (rest ys) ≡ length ys)
      → total (front (next_of longest (measure xs) (length xs)) xs rest) ≡ length xs
  unfolding total joined
  front-total xs rest h =
      next-cases (λ (s : Next). total (front s xs rest) ≡ length xs) longest xs
      (λ n a b c.
      let q = h (drop n xs) (rw length-drop (omega arith)) in
      let t = length-append (take n xs) (joined (octets_of (rest (drop n xs)).units)) in
      let u = length-take-le n xs b in
      let v = length-drop n xs in
      omega (arith, q, t, u, v))
      (λ n a b c.
      let q = h (drop n xs) (rw length-drop (omega arith)) in
      let v = length-drop n xs in
      omega (arith, q, v))
      (λ k. omega arith) (omega arith)

  up_to-total : (n : ℕ) (xs : List ℕ) → length xs ≤ n → total (walk_up_to longest n xs) ≡ length xs
  unfolding walk_up_to total joined
  up_to-total zero xs h = omega arith
  up_to-total (suc n) xs h = front-total xs (walk_up_to longest n) (λ ys l. up_to-total n ys (omega arith))

  lead-total : (on : Bool) (held : DataUnit) (xs : List ℕ) → total (lead longest on held xs) ≡ length held.octets + length xs
  unfolding lead
  lead-total on held xs =
      become-total (lead_fate longest on (measure (held.octets ++ xs)) (length held.octets) (length xs)) (unit_from held xs)
      ∙ length-append held.octets xs

  packet-total : (held : DataUnit) (p : Option ℕ) (z : List ℕ) → total (packet_lane longest held p z) ≡ length held.octets + length z
  unfolding packet_lane walk
  packet-total held (Some p) z =
      let a = lead-total false held (take p z) in
      let b = up_to-total (length (drop p z)) (drop p z) (le_refl _) in
      let c = length-append (take p z) (drop p z) in
      let d = ap length (take-append-drop p z) in
      both-total (lead longest false held (take p z)) (walk longest (drop p z)) (lead-held longest held (take p z)) ∙ omega (arith, a, b, c, d)
  packet-total held None z = lead-total true held z

  portion-total : (finished begins : Bool) (held : DataUnit) (xs : List ℕ)
      → total (portion longest finished begins held xs) ≡ length held.octets + length xs
  unfolding portion total
  portion-total finished true held xs =
      both-total (drops (length held.octets)) (become (unit_fate longest finished (length xs)) (unit_of xs)) refl
      ∙ ap₂ ◌+◌ (become-total Drop held) (become-total (unit_fate longest finished (length xs)) (unit_of xs))
  portion-total finished false held xs =
      become-total (follow_fate longest finished (length held.octets) (length xs)) (unit_from held xs) ∙ length-append held.octets xs

  access-total : (begins : Bool) (held : DataUnit) (p : Option ℕ) (z : List ℕ) → total (access_lane longest begins held p z) ≡ length held.octets + length z
  unfolding access_lane total joined
  access-total begins held (Some p) z =
      let a = portion-total true begins held (take (p + 1) z) in
      let b = length-take (p + 1) z in
      both-total (fills (length z - (p + 1))) (portion longest true begins held (take (p + 1) z)) refl ∙ omega (arith, a, b)
  access-total begins held None z = portion-total false begins held z

-- Where every octet goes: held ones and those of the zone are handed out, held, idle, fill or dropped.
pub lane-total : (k : Kind) (longest rule : ℕ) (held : DataUnit) (p : Option ℕ) (z : List ℕ)
    → total (lane_step k longest rule held p z) ≡ length held.octets + length z
unfolding lane_step
lane-total Packets longest rule held p z = packet-total longest held p z
lane-total Access longest rule held p z = access-total longest (rule =? 0b001) held p z

-- ---- what is held is less than the longest unit

abbrev few : ℕ → Made → Type 0
few longest m = length m.held.octets < longest

module _ (longest : ℕ) (one : 1 ≤ longest) where
  up_to-below : (n : ℕ) (xs : List ℕ) → few longest (walk_up_to longest n xs)
  unfolding walk_up_to
  up_to-below zero xs = omega arith
  up_to-below (suc n) xs =
      next-cases (λ (s : Next). few longest (front s xs (walk_up_to longest n))) longest xs (λ k a b c. up_to-below n (drop k xs))
      (λ k a b c. up_to-below n (drop k xs)) (λ h. h) (omega arith)

  lead-below : (on : Bool) (held : DataUnit) (xs : List ℕ) → few longest (lead longest on held xs)
  unfolding lead
  lead-below on held xs =
      let e = length-append held.octets xs in
      lead-cases (λ (f : Fate). few longest (become f (unit_from held xs))) longest on held.octets xs (λ h. omega arith) (omega arith)
      (λ g h. omega (arith, e)) (omega arith)

  packet-below : (held : DataUnit) (p : Option ℕ) (z : List ℕ) → few longest (packet_lane longest held p z)
  unfolding packet_lane walk both
  packet-below held (Some p) z = up_to-below (length (drop p z)) (drop p z)
  packet-below held None z = lead-below true held z

  portion-below : (finished begins : Bool) (held : DataUnit) (xs : List ℕ) → few longest (portion longest finished begins held xs)
  unfolding portion both
  portion-below finished true held xs =
      unit-cases (λ (f : Fate). few longest (become f (unit_of xs))) longest finished (length xs) (λ h. omega arith) (λ h. h) (omega arith)
  portion-below finished false held xs =
      let e = length-append held.octets xs in
      follow-cases (λ (f : Fate). few longest (become f (unit_from held xs))) longest finished (length held.octets) (length xs)
      (λ h. omega arith) (λ h. omega (arith, e)) (omega arith)

  access-below : (begins : Bool) (held : DataUnit) (p : Option ℕ) (z : List ℕ) → few longest (access_lane longest begins held p z)
  unfolding access_lane both
  access-below begins held (Some p) z = portion-below true begins held (take (p + 1) z)
  access-below begins held None z = portion-below false begins held z

pub lane_below : (k : Kind) (longest rule : ℕ) (held : DataUnit) (p : Option ℕ) (z : List ℕ) → least k ≤ longest
    → few longest (lane_step k longest rule held p z)
unfolding lane_step
lane_below Packets longest rule held p z h = packet-below longest (omega arith) held p z
lane_below Access longest rule held p z h = access-below longest h (rule =? 0b001) held p z

-- ---- spans: a unit has an octet in each frame that carries it

-- No more frames than octets, and some where there are octets.
pub record Sound (u : DataUnit) : Type 0 where
  pub within : u.span ≤ length u.octets
  pub some : 0 < length u.octets → 0 < u.span

abbrev pub AllSound : List DataUnit → Type 0
AllSound [] = Unit {0}
AllSound (u ∷ us) = Sound u × AllSound us

pub record MadeSound (m : Made) : Type 0 where
  pub units : AllSound m.units
  pub held : Sound m.held

none-sound : Sound no_unit
none-sound = record { within = omega arith; some = λ h. h }

-- A frame that carries a unit has an octet of it, and one that has an octet of it carries it.
pub carries-few : (xs : List ℕ) → carries xs ≤ length xs
unfolding carries
carries-few [] = omega arith
carries-few (x ∷ xs) = omega arith

pub carries-some : (xs : List ℕ) → 0 < length xs → carries xs ≡ 1
unfolding carries
carries-some [] h = absurd (not-suc-le-zero h)
carries-some (x ∷ xs) h = refl

-- A frame with octets of it is one more, so both stay true.
pub sound-from : (held : DataUnit) → Sound held → (xs : List ℕ) → Sound (unit_from held xs)
unfolding carries
sound-from held s [] = rw (append-nil held.octets) (record { within = omega (arith, s.within); some = λ h. omega (arith, s.some h) })
sound-from held s (x ∷ xs) =
    let e = length-append held.octets (x ∷ xs) in
    record { within = omega (arith, e, s.within); some = λ h. omega arith }

sound_of : (xs : List ℕ) → Sound (unit_of xs)
sound_of xs = sound-from no_unit none-sound xs

sounds_append : (us vs : List DataUnit) → AllSound us → AllSound vs → AllSound (us ++ vs)
sounds_append [] vs s t = t
sounds_append (u ∷ us) vs s t = (s.0, sounds_append us vs s.1 t)

-- Nothing is handed out and nothing held.
bare-sound : (idle fill dropped : ℕ) → MadeSound (record { units = []; held = no_unit; idle = idle; fill = fill; dropped = dropped })
bare-sound idle fill dropped = record { units = tt; held = none-sound }

both-sound : (a b : Made) → MadeSound a → MadeSound b → MadeSound (both a b)
unfolding both
both-sound a b s t = record { units = sounds_append a.units b.units s.units t.units; held = t.held }

become-sound : (f : Fate) (u : DataUnit) → Sound u → MadeSound (become f u)
become-sound Hand u s = record { units = (s, tt); held = none-sound }
become-sound Blank u s = bare-sound _ 0 0
become-sound Hold u s = record { units = tt; held = s }
become-sound Drop u s = bare-sound 0 0 _

up_to_sound : (longest n : ℕ) (xs : List ℕ) → MadeSound (walk_up_to longest n xs)
unfolding walk_up_to
up_to_sound longest zero xs = bare-sound 0 0 0
up_to_sound longest (suc n) xs = go (up_to_sound longest n) (next_of longest (measure xs) (length xs))
  where
    go : ((ys : List ℕ) → MadeSound (walk_up_to longest n ys)) → (s : Next) → MadeSound (front s xs (walk_up_to longest n))
    go rest (Give k) = record { units = (sound_of (take k xs), (rest (drop k xs)).units); held = (rest (drop k xs)).held }
    go rest (Skip k) = record { units = (rest (drop k xs)).units; held = (rest (drop k xs)).held }
    go rest Keep = record { units = tt; held = sound_of xs }
    go rest Lose = bare-sound 0 0 _

portion-sound : (longest : ℕ) (finished begins : Bool) (held : DataUnit) (xs : List ℕ) → Sound held → MadeSound (portion longest finished begins held xs)
unfolding portion
portion-sound longest finished true held xs s =
    both-sound _ _ (bare-sound 0 0 _) (become-sound (unit_fate longest finished (length xs)) (unit_of xs) (sound_of xs))
portion-sound longest finished false held xs s =
    become-sound (follow_fate longest finished (length held.octets) (length xs)) (unit_from held xs) (sound-from held s xs)

lead-sound : (longest : ℕ) (on : Bool) (held : DataUnit) (xs : List ℕ) → Sound held → MadeSound (lead longest on held xs)
unfolding lead
lead-sound longest on held xs s =
    become-sound (lead_fate longest on (measure (held.octets ++ xs)) (length held.octets) (length xs)) (unit_from held xs) (sound-from held s xs)

pub lane-sound : (k : Kind) (longest rule : ℕ) (held : DataUnit) (p : Option ℕ) (z : List ℕ) → Sound held → MadeSound (lane_step k longest rule held p z)
unfolding lane_step packet_lane access_lane walk
lane-sound Packets longest rule held (Some p) z s =
    both-sound _ _ (lead-sound longest false held (take p z) s) (up_to_sound longest (length (drop p z)) (drop p z))
lane-sound Packets longest rule held None z s = lead-sound longest true held z s
lane-sound Access longest rule held (Some p) z s =
    both-sound _ _ (bare-sound 0 _ 0) (portion-sound longest true (rule =? 0b001) held (take (p + 1) z) s)
lane-sound Access longest rule held None z s = portion-sound longest false (rule =? 0b001) held z s

-- ---- few units: each from the pointer on has two octets, and the lead ends one

become-few : (f : Fate) (u : DataUnit) → length (become f u).units ≤ 1
become-few Hand u = omega arith
become-few Blank u = omega arith
become-few Hold u = omega arith
become-few Drop u = omega arith

up_to_few : (longest n : ℕ) (xs : List ℕ) → 2 * length (walk_up_to longest n xs).units ≤ length xs
unfolding walk_up_to
up_to_few longest zero xs = omega arith
up_to_few longest (suc n) xs =
    next-cases (λ (s : Next). 2 * length (front s xs (walk_up_to longest n)).units ≤ length xs) longest xs
    (λ k a b c. let q = up_to_few longest n (drop k xs) in let v = length-drop k xs in omega (arith, q, v))
    (λ k a b c. let q = up_to_few longest n (drop k xs) in let v = length-drop k xs in omega (arith, q, v)) (λ h. omega arith) (omega arith)

portion-few : (longest : ℕ) (finished begins : Bool) (held : DataUnit) (xs : List ℕ) → length (portion longest finished begins held xs).units ≤ 1
unfolding portion both
portion-few longest finished true held xs = become-few (unit_fate longest finished (length xs)) (unit_of xs)
portion-few longest finished false held xs = become-few (follow_fate longest finished (length held.octets) (length xs)) (unit_from held xs)

pub lane-few : (k : Kind) (longest rule : ℕ) (held : DataUnit) (p : Option ℕ) (z : List ℕ)
    → 2 * length (lane_step k longest rule held p z).units ≤ 2 + length z
unfolding lane_step packet_lane access_lane lead walk both
lane-few Packets longest rule held (Some p) z =
    let a = become-few (lead_fate longest false (measure (held.octets ++ take p z)) (length held.octets) (length (take p z))) (unit_from held (take p z)) in
    let b = up_to_few longest (length (drop p z)) (drop p z) in
    let c = length-drop p z in
    let d = length-append (lead longest false held (take p z)).units (walk longest (drop p z)).units in
    omega (arith, a, b, c, d)
lane-few Packets longest rule held None z =
    let a = become-few (lead_fate longest true (measure (held.octets ++ z)) (length held.octets) (length z)) (unit_from held z) in omega (arith, a)
lane-few Access longest rule held (Some p) z = let a = portion-few longest true (rule =? 0b001) held (take (p + 1) z) in omega (arith, a)
lane-few Access longest rule held None z = let a = portion-few longest false (rule =? 0b001) held z in omega (arith, a)
