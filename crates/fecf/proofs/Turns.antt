-- What one turn of each loop of the fold does, and what is there after the last.
use mathlib.Core.Path.{◌≡◌, refl, sym, ap, ap₂, ◌∙◌}
use mathlib.Core.List.{List, [], ◌∷◌, ◌++◌}
use Prim.Native.Nat.{ℕ, zero, suc, ◌+◌, ◌-◌, ◌*◌, ◌%◌, ◌≤◌, ◌<◌}
use native.Mathlib.Nat.{add-zero, not-suc-le-zero, le_of_suc-le-suc, le_antisymm, le_refl}
use native.Mathlib.Numerals.{add-one}
use native.Mathlib.Omega.{arith}
use lib.ListN.{length, get_or, take, drop, set, replicate, length-append, length-drop, length-take, drop_of_length-le}
use lib.Seq.{drop-cons, drop-drop, drop-set-add, take-suc-set, take_all, take_at, drop_at, length-take-le, get_or-take, get_or-drop, paste}
use lib.Bits.{bit_xor}
use Rattle.std.proofs.lemmas.List.{take-replicate}
use borrow.Author.Rules.{part_to_end}
use borrow.Rule.Slice.PartMut.{put_mid}
use Rattle.fecf.specs.Folds.{next, carried, plus, later, closed, preset, shorter}
use Rattle.fecf.proofs.Folds.{length-plus, drop-plus, length-closed}

-- ---- the long register, carried on

-- In an area of more than m octets, m octets that go on by one.
one_further : (m : ℕ) (b : List ℕ) (v : ℕ) → 0 < m → m < length b → take m (drop 1 (set b m v)) ≡ drop 1 (take m b) ++ v ∷ []
one_further zero b v pos h = absurd (not-suc-le-zero pos)
one_further (suc m) [] v pos h = absurd (not-suc-le-zero h)
one_further (suc m) (y ∷ ys) v pos h = take-suc-set ys m v (le_of_suc-le-suc h)

pub carry_turn : (u j : ℕ) (a xs : List ℕ) → 0 < u → j < length xs → 16 * u + length xs ≤ length a
    → carried u (take (16 * u) (drop j a)) (drop j xs)
    ≡ carried u
    (take (16 * u) (drop (j + 1) (set a (j + 16 * u)
    (bit_xor (bit_xor (bit_xor (get_or xs j 0) (get_or a (j + 12 * u) 0)) (get_or a (j + 5 * u) 0)) (get_or a j 0)))))
    (drop (j + 1) xs)
unfolding carried next
carry_turn u j a xs pos h room =
    let m = 16 * u in
    let b = drop j a in
    let at : (k : ℕ) → k < m → get_or (take m b) k 0 ≡ get_or a (j + k) 0 = λ k hk. get_or-take m b k 0 hk ∙ get_or-drop j a k 0 in
    let x = get_or xs j 0 in
    let v = bit_xor (bit_xor (bit_xor x (get_or a (j + 12 * u) 0)) (get_or a (j + 5 * u) 0)) (get_or a j 0) in
    let same : next u (take m b) x ≡ v =
    ap₂ bit_xor
    (ap₂ (λ (p q : ℕ). bit_xor (bit_xor x p) q) (at (12 * u) (omega arith)) (at (5 * u) (omega arith)))
    (at 0 (omega arith) ∙ ap (λ (k : ℕ). get_or a k 0) (add-zero j)) in
    let moved : drop (j + 1) (set a (j + m) v) ≡ drop 1 (set b m v) = sym (drop-drop 1 j (set a (j + m) v)) ∙ ap (drop 1) (drop-set-add j a m v) in
    ap (carried u (take m b)) (drop-cons xs j 0 h)
    ∙ ap₂ (carried u)
    (ap (λ (n : ℕ). drop 1 (take m b) ++ n ∷ []) same
    ∙ sym (ap (take m) moved ∙ one_further m b v (omega arith) (omega (arith, length-drop j a))))
    (ap (λ (n : ℕ). drop n xs) (sym (add-one j)))

pub carry_all : (u j : ℕ) (a long xs : List ℕ) → j ≤ length xs → length xs ≤ j → carried u long xs ≡ carried u (take (16 * u) (drop j a)) (drop j xs)
    → take (16 * u) (drop (length xs) a) ≡ carried u long xs
unfolding carried
carry_all u j a long xs le h e =
    ap (λ (n : ℕ). take (16 * u) (drop n a)) (le_antisymm h le) ∙ sym (e ∙ ap (carried u (take (16 * u) (drop j a))) (drop_of_length-le xs h))

carried-joined : (u : ℕ) (long : List ℕ) (xs ys : List ℕ) → carried u long (xs ++ ys) ≡ carried u (carried u long xs) ys
unfolding carried
carried-joined u long [] ys = refl
carried-joined u long (x ∷ xs) ys = carried-joined u (drop 1 long ++ next u long x ∷ []) xs ys

-- A turn of 512 octets: carried on over them, the long register goes back to the front of its area.
pub far-turn : (a b d block rest : List ℕ) → length b ≡ 768 → length block ≡ 512
    → take 256 (drop (length block) b) ≡ carried 16 (take 256 a) block → d ≡ paste b 0 (drop 512 b) (length b - 512)
    → carried 16 (take 256 a) (block ++ rest) ≡ carried 16 (take 256 d) rest
far-turn a b d block rest lb long eb ed =
    let back : length (drop 512 b) ≡ 256 = omega (arith, length-drop 512 b) in
    let all : take (length b - 512) (drop 512 b) ≡ drop 512 b = take_all (length b - 512) (drop 512 b) (omega arith) in
    let front : take 256 d ≡ drop 512 b =
    ap (take 256) (ed ∙ ap (λ (l : List ℕ). l ++ drop (0 + (length b - 512)) b) all) ∙ take_at (drop 512 b) (drop (0 + (length b - 512)) b) 256 back in
    let same : take 256 d ≡ carried 16 (take 256 a) block =
    front ∙ sym (take_all 256 (drop 512 b) (omega arith)) ∙ ap (λ (m : ℕ). take 256 (drop m b)) (sym long) ∙ eb in
    carried-joined 16 (take 256 a) block rest ∙ ap (λ (l : List ℕ). carried 16 l rest) (sym same)

-- What is left of octets after blocks of 512.
pub record Blocks (xs rest : List ℕ) : Type 0 where
  pub count : ℕ
  pub here : rest ≡ drop (512 * count) xs
  pub long : 512 * count + length rest ≡ length xs

pub blocks_none : (xs rest : List ℕ) → rest ≡ xs → Blocks xs rest
blocks_none xs rest e = record { count = 0; here = e; long = omega (arith, ap length e) }

pub blocks_more : (xs rest block next : List ℕ) → rest ≡ block ++ next → length block ≡ 512 → Blocks xs rest → Blocks xs next
blocks_more xs rest block next e n w =
    let after : 512 * w.count + 512 ≡ 512 * (w.count + 1) = omega arith in
    record {
      count = w.count + 1;
      here = sym (drop_at block next 512 n) ∙ ap (drop 512) (sym e ∙ w.here) ∙ drop-drop 512 (512 * w.count) xs ∙ ap (λ (k : ℕ). drop k xs) after;
      long = let both : length rest ≡ length block + length next = ap length e ∙ length-append block next in omega (arith, w.long);
    }

-- After the last, what is left is the remainder.
pub blocks-end : (xs rest : List ℕ) → Blocks xs rest → length rest < 512 → rest ≡ drop (length xs - length xs % 512) xs
blocks-end xs rest w few = let at : 512 * w.count ≡ length xs - length xs % 512 = omega (arith, w.long) in w.here ∙ ap (λ (k : ℕ). drop k xs) at

-- ---- octets added

-- Where two areas are the same from octet j on, what is read there is the same.
read_behind : (l a : List ℕ) (j i : ℕ) → j ≤ i → drop j l ≡ drop j a → get_or l i 0 ≡ get_or a i 0
read_behind l a j i h e =
    let there : j + (i - j) ≡ i = omega arith in
    ap (λ (n : ℕ). get_or l n 0) (sym there)
    ∙ sym (get_or-drop j l (i - j) 0)
    ∙ ap (λ (m : List ℕ). get_or m (i - j) 0) e
    ∙ get_or-drop j a (i - j) 0
    ∙ ap (λ (n : ℕ). get_or a n 0) there

plus-read : (xs a : List ℕ) (j i : ℕ) → j ≤ i → get_or (plus (take j xs) a) i 0 ≡ get_or a i 0
plus-read xs a j i h = read_behind (plus (take j xs) a) a j i h (drop-plus j (take j xs) a (omega (arith, length-take j xs)))

plus-set : (xs ys : List ℕ) (j : ℕ) → j < length xs → j < length ys
    → set (plus (take j xs) ys) j (bit_xor (get_or ys j 0) (get_or xs j 0)) ≡ plus (take (suc j) xs) ys
unfolding plus
plus-set [] ys j h g = absurd (not-suc-le-zero h)
plus-set (x ∷ xs) [] j h g = absurd (not-suc-le-zero g)
plus-set (x ∷ xs) (y ∷ ys) zero h g = refl
plus-set (x ∷ xs) (y ∷ ys) (suc j) h g = ap (λ (l : List ℕ). bit_xor y x ∷ l) (plus-set xs ys j (le_of_suc-le-suc h) (le_of_suc-le-suc g))

pub plus_turn : (xs a area : List ℕ) (j x : ℕ) → j < length xs → j < length a → area ≡ plus (take j xs) a → x ≡ get_or xs j 0
    → set area j (bit_xor (get_or area j 0) x) ≡ plus (take (j + 1) xs) a
plus_turn xs a area j x h g e ex =
    ap₂ (λ (l : List ℕ) (n : ℕ). set l j (bit_xor (get_or l j 0) n)) e ex
    ∙ ap (λ (n : ℕ). set (plus (take j xs) a) j (bit_xor n (get_or xs j 0))) (plus-read xs a j j (le_refl j))
    ∙ plus-set xs a j h g
    ∙ ap (λ (n : ℕ). plus (take n xs) a) (sym (add-one j))

pub plus-all : (xs a area : List ℕ) (j : ℕ) → length xs ≤ j → area ≡ plus (take j xs) a → area ≡ plus xs a
plus-all xs a area j h e = e ∙ ap (λ (l : List ℕ). plus l a) (take_all j xs h)

pub later-turn : (d j : ℕ) (a area : List ℕ) → d + j < length a → area ≡ plus (take j (drop d a)) a
    → set area j (bit_xor (get_or area j 0) (get_or area (d + j) 0)) ≡ plus (take (j + 1) (drop d a)) a
later-turn d j a area h e =
    plus_turn (drop d a) a area j (get_or area (d + j) 0) (omega (arith, length-drop d a)) (omega arith) e
    (ap (λ (l : List ℕ). get_or l (d + j) 0) e ∙ plus-read (drop d a) a j (d + j) (omega arith) ∙ sym (get_or-drop d a j 0))

pub later-all : (d j : ℕ) (a area : List ℕ) → length a ≤ d + j → area ≡ plus (take j (drop d a)) a → area ≡ later d a
unfolding later
later-all d j a area h e = plus-all (drop d a) a area j (omega (arith, length-drop d a)) e

pub plus_none : (xs a : List ℕ) → a ≡ plus (take 0 xs) a
unfolding plus
plus_none xs a = refl

-- ---- a fold ended, in its area

pub close_part : (u from : ℕ) (area octets x : List ℕ) → from + 16 * u ≤ length area
    → x ≡ plus octets (closed u (take (from + 16 * u - from) (drop from area)))
    → take (16 * u) (drop from (put_mid from (from + 16 * u - from) area x)) ≡ plus octets (closed u (take (16 * u) (drop from area)))
close_part u from area octets x room e =
    let m = 16 * u in
    let k = from + m - from in
    let same : k ≡ m = omega arith in
    let part : x ≡ plus octets (closed u (take m (drop from area))) = e ∙ ap (λ (n : ℕ). plus octets (closed u (take n (drop from area)))) same in
    let long : length x ≡ m =
    ap length part ∙ length-plus octets (closed u (take m (drop from area))) ∙ length-closed u (take m (drop from area))
    ∙ length-take-le m (drop from area) (omega (arith, length-drop from area)) in
    ap (take m) (drop_at (take from area) (x ++ drop k (drop from area)) from (length-take-le from area (omega arith)))
    ∙ take_at x (drop k (drop from area)) m long
    ∙ part

-- ---- octets made shorter

-- Octets of an area, by another number for their place or for how many there are.
pub placed : (m k n : ℕ) (b out : List ℕ) → k ≡ n → take m (drop k b) ≡ out → take m (drop n b) ≡ out
placed m k n b out e h = ap (λ (j : ℕ). take m (drop j b)) (sym e) ∙ h

pub part-long : (n m : ℕ) (b : List ℕ) → take (n + m - n) (drop n b) ≡ take m (drop n b)
part-long n m b = (let e : n + m - n ≡ m = omega arith in ap (λ (k : ℕ). take k (drop n b)) e)

-- Carried on over all octets but the last 16u, and closed over these.
pub made_shorter : (u n : ℕ) (xs first long out : List ℕ) → n ≡ length xs - 16 * u → long ≡ carried u first (take n xs)
    → out ≡ plus (take (length xs - n) (drop n xs)) (closed u long) → out ≡ shorter u first xs
unfolding shorter
made_shorter u n xs first long out m el eo =
    eo
    ∙ ap₂ plus (part_to_end xs n) (ap (closed u) el)
    ∙ ap (λ (k : ℕ). plus (drop k xs) (closed u (carried u first (take k xs)))) m

pub shortened : (u n : ℕ) (xs a b out : List ℕ) → n ≡ length xs - 16 * u → take (16 * u) (drop (length (take n xs)) b) ≡ carried u (take (16 * u) a) (take n xs)
    → out ≡ plus (take (length xs - n) (drop n xs)) (closed u (take (16 * u) (drop n b))) → out ≡ shorter u (take (16 * u) a) xs
shortened u n xs a b out m el eo =
    let long = carried u (take (16 * u) a) (take n xs) in
    let there : take (16 * u) (drop n b) ≡ long = placed (16 * u) (length (take n xs)) n b long (length-take-le n xs (omega arith)) el in
    made_shorter u n xs (take (16 * u) a) (take (16 * u) (drop n b)) out m there eo

-- The front of an area of zeros whose first two octets are f.
pub preset-front : (u n f : ℕ) → 0 < u → 16 * u ≤ n → take (16 * u) (set (set (replicate n 0) 0 f) 1 f) ≡ preset u f
unfolding preset
preset-front u zero f pos h = absurd (omega arith)
preset-front u (suc zero) f pos h = absurd (omega arith)
preset-front u (suc (suc n)) f pos h =
    let two : 16 * u ≡ suc (suc (16 * u - 2)) = omega arith in
    ap (λ (k : ℕ). take k (f ∷ f ∷ replicate n 0)) two ∙ ap (λ (l : List ℕ). f ∷ f ∷ l) (take-replicate (16 * u - 2) n 0 (omega arith))
