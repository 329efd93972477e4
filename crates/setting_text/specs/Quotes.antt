-- What a message about a line that does not fit quotes, as docs/PROGRAMS.md has it.
use Rattle.std.specs.Prelude.{ℕ, suc, ◌-◌, Bool, false, cond, ◌&&◌, List, [], ◌∷◌, length, take, drop, get_or, Option, Some, None}
use Rattle.rules.specs.Tests.{◌<?◌, ◌=?◌}
use Rattle.setting_text.specs.declared.Stop.TheVariants as stop
use Rattle.setting_text.specs.Texts.{blank, stops, until, lines, said, words}
use Rattle.setting_text.specs.declared.quoting.Fault.{Fault}
use Rattle.setting_text.specs.declared.quoting.Fault.TheVariants.{Mark, Return, End, Quote}

-- "Begins with a byte order mark": EF BB BF.
abbrev pub marked : List ℕ → Bool
marked t = cond (length t <? 3) false (get_or t 0 0 =? 239 && get_or t 1 0 =? 187 && get_or t 2 0 =? 191)

-- Line n, from 1.
unfoldable pub line_of : ℕ → List ℕ → List ℕ
line_of n t = get_or (lines t) (n - 1) []

-- Where the last octet ends that is no blank, after n octets in which it ends at e.
unfoldable pub last_end : ℕ → ℕ → List ℕ → ℕ
last_end n e [] = e
last_end n e (x ∷ xs) = last_end (suc n) (cond (blank x) e (suc n)) xs

-- "A carriage return with a word after it in the line."
abbrev pub lone : List ℕ → Bool
lone l = until (stops stop.Return) l <? last_end 0 0 l

-- "The line's words, from the first to the end of the last."
unfoldable pub trimmed : List ℕ → List ℕ
trimmed l = take (last_end 0 0 l - until (stops stop.Word) l) (drop (until (stops stop.Word) l) l)

-- Of a line without its comment: word k, from 0, or all its words.
abbrev pub words_quoted : Option ℕ → List ℕ → List ℕ
words_quoted None l = trimmed l
words_quoted (Some k) l = get_or (words l) k []

-- "The first word that does not fit"; where all fit, the line's words.
unfoldable pub quoted : ℕ → Option ℕ → List ℕ → List ℕ
quoted n k t = words_quoted k (said (line_of n t))

-- A word does not fit in a line with a carriage return that ends no line.
abbrev pub returned : ℕ → Option ℕ → List ℕ → Bool
returned n None t = false
returned n (Some k) t = lone (line_of n t)

-- The first that applies.
abbrev pub fault_of : ℕ → Option ℕ → List ℕ → Fault
fault_of n k t = cond (marked t) Mark (cond (returned n k t) Return (cond (length (quoted n k t) =? 0) End Quote))
