-- The octets before the first that is none are E0, or all of them are.
use Rattle.std.proofs.Common.{rules, arith, ◌≡◌, ◌≤◌, ◌-◌, length, get_or, drop, ℕ, ◌+◌, List, ap, sym, ◌∙◌}
use Rattle.std.specs.List.{AllWithin}
use lib.ListN.{length-drop}
use lib.Seq.{get_or-drop}
use borrow.Author.Rules.{part_to_end}
use borrow.Author.Tests.{tests}
use Rattle.std.proofs.lemmas.Iterator.{YieldsList-from_slice, IsFirst-from_position}
use Rattle.lanes.specs.Ends.{Run}
use Rattle.lanes.proofs.walks.run_end.Goals as goal

-- A run from octet `from` on, by the octets after those before it.
run : (z : List ℕ) (from to : ℕ) → from ≤ to → to ≤ length z → AllWithin (λ (x : ℕ). x ≡ 0xE0) (drop from z) 0 (to - from) → Run z from to
run z from to h k each = record {
  begins = h;
  inside = k;
  each = λ i a b.
      let there : from + (i - from) ≡ i = omega arith in
      ap (λ (k : ℕ). get_or z k 0) (sym there) ∙ sym (get_or-drop from z (i - from) 0) ∙ each (i - from) 0 (omega arith) (omega arith);
}

pub returns-in-Some : goal.returns-in-Some
returns-in-Some c =
    let z = c.args.zone.now in
    let from = c.args.from in
    let n : from + c.in-Some.n - from ≡ c.in-Some.n = omega arith in
    let found =
    IsFirst-from_position _ _ _ (λ (x : ℕ). Unit {0}) (λ (x : ℕ). x ≡ 0xE0) c.in-Some.ensures.ran
    (YieldsList-from_slice (drop from z) (c.iter.ensures.rest ∙ part_to_end z from)) (λ x q k. search (rules, tests)) (λ x q k. search (rules, tests)) in
    run z from (from + c.in-Some.n) (omega arith) (omega (arith, length-drop from z, found.0)) (rw n found.2)

pub returns-in-None : goal.returns-in-None
returns-in-None c =
    let z = c.args.zone.now in
    let from = c.args.from in
    let found =
    IsFirst-from_position _ _ _ (λ (x : ℕ). Unit {0}) (λ (x : ℕ). x ≡ 0xE0) c.in-None.ensures.ran
    (YieldsList-from_slice (drop from z) (c.iter.ensures.rest ∙ part_to_end z from)) (λ x q k. search (rules, tests)) (λ x q k. search (rules, tests)) in
    run z from (length z) c.requires (omega arith) (rw (← length-drop from z) found)
