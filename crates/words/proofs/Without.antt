-- What stands behind `--without=`: by how many octets there are, and that a digit is at least 48.
use mathlib.Core.Path.{◌≡◌}
use Prim.Native.Nat.{ℕ, ◌≤◌, ◌<◌}
use native.Mathlib.Omega.{arith}
use mathlib.Core.Bool.{true}
use mathlib.Core.List.{List}
use lib.ListN.{length, get_or, drop, drop_of_length-le}
use lib.Seq.{drop-cons}
use borrow.Author.Tests.{leb-true}
use Rattle.rules.specs.Tests.{◌≤?◌}
use Rattle.rules.proofs.Tests.{split, and_left}
use Rattle.words.specs.declared.Word.TheVariants as word
use Rattle.words.specs.UnpackWords.{is_digit, channel_word, without_word}

pub digit_low : (x : ℕ) → is_digit x ≡ true → 48 ≤ x
unfolding is_digit
digit_low x h = leb-true _ _ (and_left (48 ≤? x) (x ≤? 57) h)

module _ (w : List ℕ) where
  pub without_one : length w ≡ 11 → without_word (drop 10 w) ≡ channel_word 48 (get_or w 10 0)
  unfolding without_word
  without_one h = rw (drop-cons w 10 0 (omega arith), drop_of_length-le w {i = 11} (omega arith))

  pub without_two : length w ≡ 12 → without_word (drop 10 w) ≡ channel_word (get_or w 10 0) (get_or w 11 0)
  unfolding without_word
  without_two h = rw (drop-cons w 10 0 (omega arith), drop-cons w 11 0 (omega arith), drop_of_length-le w {i = 12} (omega arith))

  pub without_other : (length w ≡ 11 → ⊥) → (length w ≡ 12 → ⊥) → without_word (drop 10 w) ≡ word.Unknown
  unfolding without_word
  without_other d e =
      split (length w) 10 (λ (h : length w ≤ 10). rw (drop_of_length-le w h))
      (λ (h : 10 < length w).
      rw (drop-cons w 10 0 h, drop-cons w 11 0 (omega (arith, h, d)), drop-cons w 12 0 (omega (arith, h, d, e))))

pub ruleset by_length = (without_one, without_two, without_other)
