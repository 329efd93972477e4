-- Each verdict has its field.
use mathlib.Core.Path.{◌≡◌}
use mathlib.Core.Logic.{◌⊎◌, inl, inr}
use Prim.Native.Nat.{ℕ}
use lib.Dec.{lit≤}
use Rattle.rules.specs.declared.Verdict.{Verdict}
use Rattle.rules.specs.declared.Verdict.TheVariants.{Idle, Counted, Repeat}
use Rattle.rules.specs.Listing.{text}
use Rattle.listing_text.proofs.Laws.{decimal_fits}
use Rattle.unpack_text.specs.Lines.{third}
use Rattle.unpack_text.proofs.Writes.{wrote_third, wrote_decimal, wrote_more, wrote_text}
use borrow.Author.Rules.{rules}
use Rattle.unpack_text.proofs.put_third.Goals as goal

-- Neither a lane nor a number.
third-none : (v : Verdict) → (v ≡ Idle) ⊎ (((c : ℕ) × (v ≡ Counted c)) ⊎ ((c : ℕ) × (v ≡ Repeat c))) → third v ≡ text "-"
unfolding third
third-none v (inl e) = rw e
third-none v (inr (inl (c, e))) = rw e
third-none v (inr (inr (c, e))) = rw e

pub put_decimal-requires : goal.put_decimal-requires
put_decimal-requires c = decimal_fits _ _ (search rules)

pub put_decimal-requires-in-Read : goal.put_decimal-requires-in-Read
put_decimal-requires-in-Read c = decimal_fits _ _ (search rules)

pub returns-in-Refused : goal.returns-in-Refused
unfolding third
returns-in-Refused c =
    wrote_third c.args.v _ c.in-Refused.is
    (wrote_decimal _ c.put_decimal.ensures)

pub returns-in-Idle : goal.returns-in-Idle
unfolding text
returns-in-Idle c = rw (third-none c.args.v c.in-Idle.is) (wrote_more 20 (lit≤ tt) (wrote_text c.put_octet.ensures))

pub returns-in-Read : goal.returns-in-Read
unfolding third
returns-in-Read c =
    wrote_third c.args.v _ c.in-Read.is
    (wrote_decimal _ c.put_decimal-in-Read.ensures)
