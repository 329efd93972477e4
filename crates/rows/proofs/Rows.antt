-- Numbers laid one after another are a row, and rows laid one after another a state.
use mathlib.Core.Path.{◌≡◌, refl, sym, ap, ap₂, ◌∙◌}
use Prim.Native.Nat.{ℕ, zero, suc, ◌+◌, ◌*◌, ◌≤◌, ◌<◌}
use native.Mathlib.Numerals.{add-one}
use native.Mathlib.Omega.{arith}
use mathlib.Core.List.{List, [], ◌∷◌, ◌++◌, append_assoc, append-nil}
use lib.ListN.{length, take, get_or, length-append}
use lib.Seq.{take-suc, take_all, length-take-le}
use Rattle.rules.specs.declared.Channel.{Channel}
use Rattle.rules.specs.declared.Lane.{Lane}
use Rattle.rules.specs.declared.Setting.{Setting}
use Rattle.rules.specs.declared.Expect.{Expect}
use Rattle.rules.specs.declared.Expects.{Expects}
use Rattle.rules.specs.Settings.{no_channel, expect_on}
use Rattle.rules.specs.Octets.{be}
use Rattle.rules.specs.Areas.{laid}
use Rattle.rules.proofs.Octets.{length-be}
use Rattle.rules.proofs.Areas.{laid-laid}
use Rattle.rows.specs.declared.Tail.{Tail}
use Rattle.rows.specs.Rows.{spelled}
use Rattle.rows.specs.States.{front_row, channel_row, lane_row, rows, channel_rows, lane_rows, state_octets}

pub length-spelled : (ns : List ℕ) → length (spelled ns) ≡ 8 * length ns
unfolding spelled
length-spelled [] = refl
length-spelled (n ∷ ns) = length-append (be 8 n) (spelled ns) ∙ ap₂ ◌+◌ (length-be 8 n) (length-spelled ns) ∙ omega arith

spelled_append : (ms ns : List ℕ) → spelled (ms ++ ns) ≡ spelled ms ++ spelled ns
unfolding spelled
spelled_append [] ns = refl
spelled_append (m ∷ ms) ns = ap (λ (x : List ℕ). be 8 m ++ x) (spelled_append ms ns) ∙ sym (append_assoc (be 8 m) (spelled ms) (spelled ns))

spelled-one : (n : ℕ) → spelled (n ∷ []) ≡ be 8 n
unfolding spelled
spelled-one n = append-nil (be 8 n)

-- What is laid where the octets laid before end is laid with them.
pub lays_on : (d area xs ys : List ℕ) (from at : ℕ) → area ≡ laid d from xs → from + length xs ≤ length d → at ≡ from + length xs
    → laid area at ys ≡ laid d from (xs ++ ys)
lays_on d area xs ys from at here room e = ap₂ (λ (x : List ℕ) (n : ℕ). laid x n ys) here e ∙ laid-laid d from xs room ys

-- One number of a row more.
pub row-turn : (d area ns : List ℕ) (from i : ℕ) → i < length ns → from + 8 * length ns ≤ length d → area ≡ laid d from (spelled (take i ns))
    → laid area (from + 8 * i) (be 8 (get_or ns i 0)) ≡ laid d from (spelled (take (i + 1) ns))
row-turn d area ns from i h room here =
    let long : length (spelled (take i ns)) ≡ 8 * i = length-spelled (take i ns) ∙ ap (λ (n : ℕ). 8 * n) (length-take-le i ns (omega arith)) in
    lays_on d area (spelled (take i ns)) (be 8 (get_or ns i 0)) from (from + 8 * i) here (omega (arith, long)) (ap (λ (n : ℕ). from + n) (sym long))
    ∙ ap (laid d from)
    (ap (λ (x : List ℕ). spelled (take i ns) ++ x) (sym (spelled-one (get_or ns i 0))) ∙ sym (spelled_append (take i ns) (get_or ns i 0 ∷ []))
    ∙ ap spelled (sym (take-suc ns i 0 h) ∙ ap (λ (n : ℕ). take n ns) (sym (add-one i))))

pub row-all : (d area ns : List ℕ) (from i : ℕ) → length ns ≤ i → area ≡ laid d from (spelled (take i ns)) → area ≡ laid d from (spelled ns)
row-all d area ns from i h here = here ∙ ap (λ (x : List ℕ). laid d from (spelled x)) (take_all i ns h)

-- ---- rows

rows_long : (f : ℕ → List ℕ) (n : ℕ) → ((i : ℕ) → length (f i) ≡ 8) → length (rows f n) ≡ 64 * n
unfolding rows
rows_long f zero long = refl
rows_long f (suc n) long =
    length-append (rows f n) (spelled (f n))
    ∙ ap₂ ◌+◌ (rows_long f n long) (length-spelled (f n) ∙ ap (λ (i : ℕ). 8 * i) (long n)) ∙ omega arith

-- One row more.
pub rows-turn : (f : ℕ → List ℕ) (d area row : List ℕ) (k i : ℕ) → ((j : ℕ) → length (f j) ≡ 8) → 64 * k + 64 * i ≤ length d
    → area ≡ laid d (64 * k) (rows f i) → row ≡ f i → laid area (64 * (k + i)) (spelled row) ≡ laid d (64 * k) (rows f (i + 1))
unfolding rows
rows-turn f d area row k i each room here e =
    let long : length (rows f i) ≡ 64 * i = rows_long f i each in
    lays_on d area (rows f i) (spelled row) (64 * k) (64 * (k + i)) here (omega (arith, long)) (omega (arith, long))
    ∙ ap (λ (x : List ℕ). laid d (64 * k) (rows f i ++ spelled x)) e ∙ ap (λ (n : ℕ). laid d (64 * k) (rows f n)) (sym (add-one i))

pub rows_all : (f : ℕ → List ℕ) (d area : List ℕ) (k i : ℕ) → i ≡ 8 → area ≡ laid d (64 * k) (rows f i) → area ≡ laid d (64 * k) (rows f 8)
rows_all f d area k i e here = here ∙ ap (λ (n : ℕ). laid d (64 * k) (rows f n)) e

pub channel-long : (c : Channel) (x : Expect) → length (channel_row c x) ≡ 8
unfolding channel_row
channel-long c x = refl

pub lane-long : (l : Lane) (x : Tail) → length (lane_row l x) ≡ 8
unfolding lane_row
lane-long l x = refl

-- The three parts of a state, one after another.
pub state-laid : (d₀ d₁ d₂ d₃ row : List ℕ) (k : ℕ) (s : Setting) (xs : Expects) (ys : List Tail) → 64 * k + 1088 ≤ length d₀ → row ≡ front_row s
    → d₁ ≡ laid d₀ (64 * k) (spelled row) → d₂ ≡ laid d₁ (64 * (k + 1)) (channel_rows s.channels xs)
    → d₃ ≡ laid d₂ (64 * (k + 9)) (lane_rows s.lanes ys) → d₃ ≡ laid d₀ (64 * k) (state_octets s xs ys)
unfolding state_octets channel_rows lane_rows front_row
state-laid d₀ d₁ d₂ d₃ row k s xs ys room e p q r =
    let one : length (spelled (front_row s)) ≡ 64 = length-spelled (front_row s) in
    let eight : length (channel_rows s.channels xs) ≡ 512 = rows_long _ 8 (λ i. channel-long (get_or s.channels i no_channel) (expect_on xs i)) in
    let both : length (spelled (front_row s) ++ channel_rows s.channels xs) ≡ 576 =
    length-append (spelled (front_row s)) (channel_rows s.channels xs) ∙ ap₂ ◌+◌ one eight in
    r
    ∙ lays_on d₀ d₂ (spelled (front_row s) ++ channel_rows s.channels xs) (lane_rows s.lanes ys) (64 * k) (64 * (k + 9))
    (q
    ∙ lays_on d₀ d₁ (spelled (front_row s)) (channel_rows s.channels xs) (64 * k) (64 * (k + 1)) (p ∙ ap (λ (x : List ℕ). laid d₀ (64 * k) (spelled x)) e)
    (omega (arith, one)) (omega (arith, one)))
    (omega (arith, both)) (omega (arith, both))
