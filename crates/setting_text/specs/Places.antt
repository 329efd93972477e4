-- What the steps of a reading promise each other: a place in a line, bounds, and lines that were taken. What a text means does not stand on it.
use Rattle.std.specs.Prelude.{ℕ, ◌-◌, ◌≤◌, ◌≡◌, cond, ◌&&◌, List, [], ◌∷◌, length, take, drop, get_or, Option, Some, None, Result, Ok, Err}
use Rattle.rules.specs.Tests.{◌≤?◌}
use Rattle.setting_text.specs.declared.Stop.{Stop}
use Rattle.setting_text.specs.declared.Ask.{Ask}
use Rattle.setting_text.specs.declared.Ask.TheVariants as ask
use Rattle.setting_text.specs.declared.Heard.{Heard}
use Rattle.setting_text.specs.declared.Trace.{Trace}
use Rattle.setting_text.specs.declared.Draft.{Draft}
use Rattle.setting_text.specs.declared.Finding.{Finding}
use Rattle.setting_text.specs.Texts.{stops, until, lines, words, first, others, digits, value}
use Rattle.setting_text.specs.Table.{Seen, fresh, further}
use Rattle.setting_text.specs.Facts.{nothing, gather}

-- So many they are, and there are so many.
pub record Until (k : Stop) (xs : List ℕ) (n : ℕ) : Type 0 where
  pub counts : n ≡ until (stops k) xs
  pub within : n ≤ length xs

-- The next word of the octets from `at` on stands from `from` to `to`; where there is none, it is empty.
pub record Word (l : List ℕ) (at from to : ℕ) : Type 0 where
  pub word : first (words (drop at l)) ≡ take (to - from) (drop from l)
  pub after : others (words (drop at l)) ≡ words (drop to l)
  pub onward : at ≤ length l → at ≤ from
  pub forward : from ≤ to
  pub within : to ≤ length l

-- The number that digits stand for after those that stand for n, up to 65,535, if any.
unfoldable pub number_from : ℕ → List ℕ → Option ℕ
number_from n w = cond (digits w && value n w ≤? 65535) (Some (value n w)) None

-- What is before a place in a line.
unfoldable pub seen : Trace → Seen
seen t = record { all = words t.line.now; rest = words (drop t.at t.line.now); now = t.now; best = t.best }

-- The place after a word that ends at `to`.
abbrev pub moved : ℕ → Ask → Heard → Trace → Seen
moved to (ask.Word w) h t = record { all = words t.line.now; rest = words (drop to t.line.now); now = h; best = t.best }
moved to (ask.Number low high) h t = record { all = words t.line.now; rest = words (drop to t.line.now); now = h; best = t.best }
moved to (ask.End s) h t =
    record { all = words t.line.now; rest = words t.line.now; now = fresh (Ok None); best = further t.best h }

-- The largest numbers of a line, in the order of their fields.
abbrev pub most : List ℕ
most = 4096 ∷ 65535 ∷ 1 ∷ 64 ∷ 1 ∷ 62 ∷ 1 ∷ 7 ∷ 1 ∷ 15 ∷ 30 ∷ 8192 ∷ []

abbrev pub Bounded : List ℕ → Type 0
Bounded ns = (k : ℕ) → get_or ns k 0 ≤ get_or most k 0

-- What is heard of a line stays in the table's bounds.
pub record Sound (h : Heard) : Type 0 where
  pub numbers : Bounded h.numbers

-- There is room for what the lines list.
pub record Room (d : Draft) : Type 0 where
  pub channels : d.lists.listed ≤ 8
  pub lanes : d.lists.numbered ≤ 8

-- There is room for what they list, where no line is refused.
abbrev pub Roomy : Result Draft Finding → Type 0
Roomy (Ok d) = Room d
Roomy (Err f) = Unit {0}

-- All lines were taken, and there is room for what they list.
pub record Gathering (t : List ℕ) (r : Result Draft Finding) : Type 0 where
  pub gathered : r ≡ gather 1 nothing (lines t)
  pub room : Roomy r
