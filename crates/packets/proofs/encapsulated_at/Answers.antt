-- The tables are the rule's, entry by entry; the total stands in the last octets of the header, which is there.
use mathlib.Core.Path.{◌≡◌, ap, ◌∙◌}
use Prim.Native.Nat.{ℕ, ◌-◌}
use native.Mathlib.Omega.{arith}
use mathlib.Core.List.{List}
use lib.ListN.{take, drop, length-take}
use borrow.Author.Tests.{eq-eqb, ne_eqb, lt-ltb, le-ltb}
use Rattle.rules.specs.Octets.{num}
use Rattle.rules.specs.Packets.{protocol, length_of_length, header_size, length_size, total_in, totalled, encapsulated, headed}
use Rattle.rules.proofs.Measures.{Fits, entry_fits}
use Rattle.packets.proofs.encapsulated_at.Goals as goal

fits : (a : ℕ) → Fits (header_size (length_of_length a)) (length_size (length_of_length a))
fits a = entry_fits (length_of_length a) (omega arith)

-- The octets from the length's first to the header's last are the length's.
total-at : (a : ℕ) (xs : List ℕ) → num (take (header_size (length_of_length a) - (header_size (length_of_length a) - length_size (length_of_length a)))
    (drop (header_size (length_of_length a) - length_size (length_of_length a)) xs)) ≡ total_in (length_of_length a) xs
unfolding total_in
total-at a xs =
    let h : ℕ = header_size (length_of_length a) in
    let k : ℕ = length_size (length_of_length a) in
    let e : h - (h - k) ≡ k = omega (arith, (fits a).within) in
    ap (λ (n : ℕ). num (take n (drop (h - k) xs))) e

pub returns-then-n-h : goal.returns-then-n-h
unfolding headed
returns-then-n-h c = simp (lt-ltb _ _ c.if-n-h.true)

pub returns-then-l-eq0 : goal.returns-then-l-eq0
unfolding headed encapsulated
returns-then-l-eq0 c = c.alone_of.ensures ∙ simp (le-ltb _ _ c.if-n-h.false, eq-eqb _ _ c.if-l-eq0.true)

pub overflow_sub-from : goal.overflow_sub-from
overflow_sub-from c = (fits c.args.a).within

pub exact-total-requires : goal.exact-total-requires
exact-total-requires c = rw length-take (omega (arith, (fits c.args.a).most))

pub returns : goal.returns
unfolding headed encapsulated
returns c =
    let g = c.args in
    c.totalled_of.ensures
    ∙ ap (totalled (protocol g.a) (header_size (length_of_length g.a))) (c.exact-total.ensures ∙ total-at g.a g.octets.now)
    ∙ simp (le-ltb _ _ c.if-n-h.false, ne_eqb _ _ c.if-l-eq0.false)
