use Rattle.std.proofs.Common.{rules, arith, ◌≡◌, ℕ, ◌+◌, ◌%◌, ◌≤◌, ◌<◌, List, length, get_or, drop, sym, ap, ◌∙◌, add-one, drop-cons}
use lib.ListN.{drop_of_length-le}
use Rattle.fecf.specs.Remainders.{step_by, from_by}
use Rattle.fecf.proofs.check_by.Goals as goal

turn : (t xs : List ℕ) (i r : ℕ) → i < length xs → from_by t r (drop i xs) ≡ from_by t (step_by t r (get_or xs i 0)) (drop (i + 1) xs)
unfolding from_by
turn t xs i r h = rw (drop-cons xs i 0 h, add-one)

end : (t xs : List ℕ) (i r : ℕ) → length xs ≤ i → from_by t r (drop i xs) ≡ r
unfolding from_by
end t xs i r h = rw (drop_of_length-le xs h)

pub loop-x-init : goal.loop-x-init
loop-x-init c =
    let a = c.args in
    let whole : a.first ≡ c.from-r.result % 0x10000 = omega (arith, c.ranges.first.fits) in
    ap (λ (n : ℕ). from_by a.table.now n a.octets.now) whole

pub loop-x-preserved : goal.loop-x-preserved
loop-x-preserved c =
    let l = c.loop-x in
    l.invariant ∙ turn _ _ l.x-index (l.r % 0x10000) (search rules) ∙ rw c.taken-r.ensures

pub returns : goal.returns
returns c = sym (c.loop-x.invariant ∙ end _ _ _ _ c.loop-x-test.false)
