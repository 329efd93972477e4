-- The sum of the slots passed.
use Rattle.std.proofs.Common.{ℕ, rules, tests, ◌∙◌, ap}
use Rattle.std.proofs.lemmas.Iterator.{YieldsList-from_slice, YieldsList-from_take}
use Rattle.std.proofs.lemmas.Iterator.Consumers.{fold_from_yields_List}
use Rattle.rules.specs.declared.Slot.{Slot}
use Rattle.std.specs.Slice.Iter.{iter_rest}
use Rattle.unpack_text.specs.Totals.{add}
use Rattle.unpack_text.proofs.Slots.{held-fold}
use Rattle.unpack_text.proofs.held_in.Goals as goal

pub returns : goal.returns
returns c =
    fold_from_yields_List _ (λ (sum : ℕ) (x : Slot). add sum x.held) 0 c.fold.result c.fold.ensures.ran
    (YieldsList-from_take c.args.n (YieldsList-from_slice c.args.slots (ap iter_rest c.take.ensures.source ∙ c.iter.ensures.rest)) c.take.ensures.count)
    (λ a x b q k. search (rules, tests))
    ∙ held-fold _ _
