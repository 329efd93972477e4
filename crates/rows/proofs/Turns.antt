-- Eight slots are told by what stands in each.
use Rattle.std.proofs.Common.{◌≡◌, refl, ◌∙◌, ap, sym, ℕ, zero, suc, ◌<◌, ◌≤◌, List, length, get_or, arith, get_or-set_same, get_or-set_other}
use Rattle.std.proofs.Math.ListN.{set, length-set}
use Rattle.std.proofs.lemmas.List.{same_lists}
use Rattle.rules.proofs.Tests.{same}
use Rattle.rows.specs.States.{slots}

module _ {A : Type 0} (z : A) (f : ℕ → A) where
  slots_long : (n : ℕ) → length (slots z f n) ≡ 8
  unfolding slots
  slots_long zero = refl
  slots_long (suc n) = length-set (slots z f n) n (f n) ∙ slots_long n

  slots-at : (n i : ℕ) (d : A) → n ≤ 8 → i < n → get_or (slots z f n) i d ≡ f i
  unfolding slots
  slots-at zero i d h l = absurd (omega arith)
  slots-at (suc n) i d h l =
      let long = slots_long n in
      same i n (λ e. ap (λ (k : ℕ). get_or (set (slots z f n) n (f n)) k d) e ∙ get_or-set_same (slots z f n) n (f n) d (omega arith) ∙ ap f (sym e))
      (λ e. get_or-set_other (slots z f n) n i (f n) d e ∙ slots-at n i d (omega arith) (omega arith))

  pub slots_are : (xs : List A) → length xs ≡ 8 → ((i : ℕ) (d : A) → i < 8 → get_or xs i d ≡ f i) → xs ≡ slots z f 8
  slots_are xs long at =
      same_lists xs (slots z f 8) (long ∙ sym (slots_long 8)) (λ i d l. let k : i < 8 = omega arith in at i d k ∙ sym (slots-at 8 i d (omega arith) k))
