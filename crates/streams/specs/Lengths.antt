-- A list of lengths: "decimal numbers with blanks or line feeds between them".
use Rattle.std.specs.Prelude.{ℕ, ◌+◌, ◌-◌, ◌*◌, min, Bool, true, false, cond, Option, Some, None, Result, Ok, Err, List, length, get_or, take, drop}
use Rattle.std.specs.List.{prefix_len, fold}
use Rattle.rules.specs.Tests.{◌=?◌, ◌<?◌, ◌≤?◌}
use Rattle.streams.specs.declared.lengths.NoNumber.{NoNumber}
use Rattle.streams.specs.declared.lengths.Listed.{Listed}

-- A space, a line feed, a carriage return or a tab.
unfoldable pub is_blank : ℕ → Bool
is_blank x = cond (x =? 32) true (cond (x =? 10) true (cond (x =? 13) true (x =? 9)))

unfoldable pub is_digit : ℕ → Bool
is_digit x = cond (x <? 48) false (x ≤? 57)

-- The number that digits come to with one more. What is above 10,000 stays there: no unit is that long.
abbrev pub with_digit : ℕ → ℕ → ℕ
with_digit v x = min (v * 10 + (x - 48)) 10000

-- The number that digits are after those that came to v.
unfoldable pub value_from : ℕ → List ℕ → ℕ
value_from v xs = fold with_digit v xs

-- A number ends before these octets.
unfoldable pub ends_at : List ℕ → Bool
ends_at xs = cond (length xs =? 0) true (is_blank (get_or xs 0 0))

-- What stands next: a number, nothing more, or something else.
abbrev pub Word : Type 0
Word = Result (Option ℕ) NoNumber

abbrev pub other : Word
other = Err (record {})

-- "A number and the blanks and line feeds before it have fewer than 256 octets together": what stands after b blanks, with d digits.
unfoldable pub word_of : ℕ → ℕ → List ℕ → Word
word_of b d xs =
    cond (256 ≤? (b + d)) other
    (cond (length xs =? b) (Ok None)
    (cond (d =? 0) other
    (cond (ends_at (drop (b + d) xs)) (Ok (Some (value_from 0 (take d (drop b xs))))) other)))

-- What stands next in a list with these octets.
unfoldable pub next_of : List ℕ → Listed
next_of xs =
    let b : ℕ = prefix_len is_blank xs in
    let d : ℕ = prefix_len is_digit (drop b xs) in
    record { length = word_of b d xs; blanks = b; used = b + d }
