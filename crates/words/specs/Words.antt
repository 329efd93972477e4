-- Words of a command line.
use Rattle.std.specs.Prelude.{ℕ, ◌+◌, Bool, true, false, cond, ◌&&◌, List, [], ◌∷◌, length}
use Rattle.rules.specs.Tests.{◌=?◌}
use Rattle.rules.specs.Listing.{text}

-- These octets begin with that word.
unfoldable pub begins : List ℕ → List ℕ → Bool
begins [] xs = true
begins (w ∷ ws) [] = false
begins (w ∷ ws) (x ∷ xs) = x =? w && begins ws xs

-- These octets are that word.
unfoldable pub is_word : List ℕ → List ℕ → Bool
is_word word xs = begins word xs && length xs =? length word

-- "Words that begin with two dashes are options."
unfoldable pub is_option : List ℕ → Bool
is_option xs = begins (text "--") xs

-- "`-` there is standard input."
unfoldable pub is_dash : List ℕ → Bool
is_dash xs = is_word (text "-") xs

-- "What stands behind `=` in a word": how many octets there are before it, when i were passed over. Octet 61 is =.
unfoldable pub behind : ℕ → List ℕ → ℕ
behind i [] = 0
behind i (x ∷ xs) = cond (x =? 61) (i + 1) (behind (i + 1) xs)
