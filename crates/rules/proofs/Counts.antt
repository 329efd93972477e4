-- Facts about counts, once over n: counts are taken modulo 256^n.
use mathlib.Core.Path.{◌≡◌, refl, sym, ap, ◌∙◌, subst}
use Prim.Native.Nat.{ℕ, suc, ◌+◌, ◌-◌, ◌%◌, ◌^◌, ◌≤◌, ◌<◌}
use native.Mathlib.Nat.{zero-lt-suc, add-zero, mod-lt, mod-eq_of_lt, mod_self, mod-mod, mod-add-mod, add-mod-mod, add-mod_right, pow-le-pow_right}
use native.Mathlib.Omega.{arith}
use mathlib.Core.Bool.{Bool, true, false, cond}
use borrow.Author.Tests.{eq-eqb, ne_eqb, eqb-false}
use Rattle.rules.specs.declared.Expect.{Expect}
use Rattle.rules.specs.Tests.{◌=?◌}
use Rattle.rules.specs.Reading.{missing, expected, last_taken, repeats}
use Rattle.rules.specs.Writing.{count_after}
use Rattle.rules.proofs.Tests.{split, same}
use Rattle.rules.proofs.Octets.{pow256_pos}

abbrev pub expects : ℕ → Expect
expects v = record { known = true; count = v }

-- What is expected, by the flag.
pub expect-by : (e : Expect) (t : Bool) → e.known ≡ t → e ≡ record { known = t; count = e.count }
expect-by e t q = ap (λ (b : Bool). record { known = b; count = e.count }) q

-- ---- over any modulus

-- A number g past v, less v, is g.
past : (m v g : ℕ) → 0 < m → v < m → g < m → ((v + g) % m + m - v) % m ≡ g
past m v g p hv hg =
    let e : (v + g) % m + m - v ≡ (v + g) % m + (m - v) = omega arith in
    let q : v + g + (m - v) ≡ g + m = omega arith in
    ap (λ (x : ℕ). x % m) e ∙ mod-add-mod (v + g) m (m - v) ∙ ap (λ (x : ℕ). x % m) q ∙ add-mod_right g m ∙ mod-eq_of_lt hg

no_less : (m v k : ℕ) → v < m → k < m → (k + m - v) % m ≡ 0 → k ≡ v
no_less m v k hv hk e =
    split v k
    (λ h.
    let q : k + m - v ≡ k - v + m = omega arith in
    let z : k - v ≡ 0 = sym (mod-eq_of_lt (omega arith)) ∙ sym (add-mod_right (k - v) m) ∙ ap (λ (x : ℕ). x % m) (sym q) ∙ e in
    omega arith)
    (λ h.
    let z : k + m - v ≡ 0 = sym (mod-eq_of_lt (omega arith)) ∙ e in
    absurd (omega arith))

-- Less v, and v again.
there_and_back : (m v k : ℕ) → v < m → k < m → (v + (k + m - v) % m) % m ≡ k
there_and_back m v k hv hk =
    let q : v + (k + m - v) ≡ k + m = omega arith in
    add-mod-mod v (k + m - v) m ∙ ap (λ (x : ℕ). x % m) q ∙ add-mod_right k m ∙ mod-eq_of_lt hk

-- ---- missing

-- "0 if none was expected."
pub missing_unknown : (n v k : ℕ) → missing n (record { known = false; count = v }) k ≡ 0
unfolding missing
missing_unknown n v k = refl

-- Where g frames are gone, fewer than there are counts, g are missing.
pub missing-gone : (n v g : ℕ) → v < 256 ^ n → g < 256 ^ n → missing n (expects v) ((v + g) % 256 ^ n) ≡ g
unfolding missing
missing-gone n v g hv hg = past (256 ^ n) v g (pow256_pos n) hv hg

-- None is missing exactly when the count is the expected one.
pub missing-none : (n v : ℕ) → v < 256 ^ n → missing n (expects v) v ≡ 0
missing-none n v hv =
    let e : (v + 0) % 256 ^ n ≡ v = ap (λ (x : ℕ). x % 256 ^ n) (add-zero v) ∙ mod-eq_of_lt hv in
    ap (missing n (expects v)) (sym e) ∙ missing-gone n v 0 hv (pow256_pos n)

pub none-missing : (n v k : ℕ) → v < 256 ^ n → k < 256 ^ n → missing n (expects v) k ≡ 0 → k ≡ v
unfolding missing
none-missing n v k hv hk e = no_less (256 ^ n) v k hv hk e

pub missing-below : (n : ℕ) (e : Expect) (k : ℕ) → missing n e k < 256 ^ n
unfolding missing
missing-below n e k = go e.known
  where
    go : (t : Bool) → cond t ((k + 256 ^ n - e.count) % 256 ^ n) 0 < 256 ^ n
    go true = mod-lt (k + 256 ^ n - e.count) (pow256_pos n)
    go false = pow256_pos n

-- A count of one octet or more has 256 values or more.
pub counts_many : (n : ℕ) → 1 ≤ n → 256 ≤ 256 ^ n
counts_many n h = pow-le-pow_right (zero-lt-suc 255) h

-- ---- repeats (document 02, A3)

-- Where none is expected, no frame is a repeat.
pub repeats_unknown : (n v k : ℕ) → repeats n (record { known = false; count = v }) k ≡ false
unfolding repeats
repeats_unknown n v k = refl

-- Where one is, a repeat is a frame before which all counts but one would be missing.
pub repeats-missing : (n v k : ℕ) → v < 256 ^ n → k < 256 ^ n → repeats n (expects v) k ≡ missing n (expects v) k =? (256 ^ n - 1)
unfolding repeats last_taken missing
repeats-missing n v k hv hk =
    same k ((v + m - 1) % m)
    (λ e.
    rw (eq-eqb k ((v + m - 1) % m) e)
    (sym (eq-eqb ((k + m - v) % m) (m - 1)
    (ap (λ (x : ℕ). (x + m - v) % m) (e ∙ ap (λ (x : ℕ). x % m) last) ∙ past m v (m - 1) (pow256_pos n) hv (omega (arith, pow256_pos n))))))
    (λ e.
    rw (ne_eqb k ((v + m - 1) % m) e)
    (sym (ne_eqb ((k + m - v) % m) (m - 1)
    (λ q. e (sym (there_and_back m v k hv hk) ∙ ap (λ (x : ℕ). (v + x) % m) q ∙ ap (λ (x : ℕ). x % m) (sym last))))))
  where
    m : ℕ
    m = 256 ^ n

    last : v + 256 ^ n - 1 ≡ v + (256 ^ n - 1)
    last = omega (arith, pow256_pos n)

-- Whatever is expected: before a repeat all counts but one would be missing; before any other frame at most all but two are.
pub few_no_repeat : (n : ℕ) (e : Expect) (k : ℕ) → e.count < 256 ^ n → k < 256 ^ n → missing n e k < 256 ^ n - 1 → repeats n e k ≡ false
few_no_repeat n e k he hk h = go e.known refl
  where
    go : (t : Bool) → e.known ≡ t → repeats n e k ≡ false
    go true q =
        let x : e ≡ expects e.count = expect-by e true q in
        let l : missing n e k ≡ missing n (expects e.count) k = ap (λ (y : Expect). missing n y k) x in
        ap (λ (y : Expect). repeats n y k) x ∙ repeats-missing n e.count k he hk
        ∙ ne_eqb (missing n (expects e.count) k) (256 ^ n - 1) (λ z. omega (arith, h, l, z))
    go false q = ap (λ (y : Expect). repeats n y k) (expect-by e false q) ∙ repeats_unknown n e.count k

pub no_repeat-few : (n : ℕ) → 1 ≤ n → (e : Expect) (k : ℕ) → e.count < 256 ^ n → k < 256 ^ n → repeats n e k ≡ false → missing n e k + 2 ≤ 256 ^ n
no_repeat-few n hn e k he hk h = go e.known refl
  where
    go : (t : Bool) → e.known ≡ t → missing n e k + 2 ≤ 256 ^ n
    go true q =
        let x : e ≡ expects e.count = expect-by e true q in
        let b = missing-below n (expects e.count) k in
        let z = eqb-false (missing n (expects e.count) k) (256 ^ n - 1)
        (sym (repeats-missing n e.count k he hk) ∙ ap (λ (y : Expect). repeats n y k) (sym x) ∙ h) in
        let l : missing n (expects e.count) k + 2 ≤ 256 ^ n = split (256 ^ n) (missing n (expects e.count) k + 1)
        (λ o. absurd (z (omega (arith, o, b)))) (λ o. omega (arith, o)) in
        subst (λ (y : Expect). missing n y k + 2 ≤ 256 ^ n) (sym x) l
    go false q =
        let x : missing n e k ≡ 0 = ap (λ (y : Expect). missing n y k) (expect-by e false q) ∙ missing_unknown n e.count k in
        omega (arith, counts_many n hn, x)

-- Once its count is taken, a frame with that count is a repeat.
pub taken-repeats : (n k : ℕ) → k < 256 ^ n → repeats n (expected n k) k ≡ true
unfolding repeats last_taken expected
taken-repeats n k h =
    let p : 0 < 256 ^ n = pow256_pos n in
    let a : (k + 1) % 256 ^ n + 256 ^ n - 1 ≡ (k + 1) % 256 ^ n + (256 ^ n - 1) = omega (arith, p) in
    let b : k + 1 + (256 ^ n - 1) ≡ k + 256 ^ n = omega (arith, p) in
    eq-eqb k _
    (sym (ap (λ (x : ℕ). x % 256 ^ n) a ∙ mod-add-mod (k + 1) (256 ^ n) (256 ^ n - 1) ∙ ap (λ (x : ℕ). x % 256 ^ n) b ∙ add-mod_right k (256 ^ n)
    ∙ mod-eq_of_lt h))

-- ---- the next count

pub expected-below : (n k : ℕ) → (expected n k).count < 256 ^ n
unfolding expected
expected-below n k = mod-lt (k + 1) (pow256_pos n)

-- Both ends count alike.
pub expected-after : (n k : ℕ) → expected n k ≡ expects (count_after n k)
unfolding expected count_after
expected-after n k = refl

-- After the highest count comes 0.
pub wrap_around : (n : ℕ) → count_after n (256 ^ n - 1) ≡ 0
unfolding count_after
wrap_around n =
    let p : 0 < 256 ^ n = pow256_pos n in
    let e : 256 ^ n - 1 + 1 ≡ 256 ^ n = omega arith in
    ap (λ (x : ℕ). x % 256 ^ n) e ∙ mod_self (256 ^ n)

-- Before it, one more.
pub no_wrap : (n k : ℕ) → k + 1 < 256 ^ n → count_after n k ≡ k + 1
unfolding count_after
no_wrap n k h = mod-eq_of_lt h

-- After the count g past v comes the one g + 1 past it.
pub one_further : (n v g : ℕ) → count_after n ((v + g) % 256 ^ n) ≡ (v + suc g) % 256 ^ n
unfolding count_after
one_further n v g =
    let q : v + g + 1 ≡ v + suc g = omega arith in
    mod-add-mod (v + g) (256 ^ n) 1 ∙ ap (λ (x : ℕ). x % 256 ^ n) q

-- A count after another is below 256^n, so that none past it is itself.
pub none-further : (n v : ℕ) → (count_after n v + 0) % 256 ^ n ≡ count_after n v
unfolding count_after
none-further n v = ap (λ (x : ℕ). x % 256 ^ n) (add-zero ((v + 1) % 256 ^ n)) ∙ mod-mod (v + 1) (256 ^ n)
