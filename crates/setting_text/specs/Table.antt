-- The setting as a text: the table of its lines, and what is heard of a line that is held against it.
use Rattle.std.specs.Prelude.{ℕ, ◌+◌, cond, ◌&&◌, List, [], ◌∷◌, set, replicate, Option, Some, None, Result, Ok, Err}
use Rattle.rules.specs.Tests.{◌≤?◌, ◌<?◌}
use Rattle.rules.specs.Listing.{text}
use Rattle.setting_text.specs.declared.Wanted.{Wanted}
use Rattle.setting_text.specs.declared.Wanted.TheVariants as want
use Rattle.setting_text.specs.declared.Fact.{Fact}
use Rattle.setting_text.specs.declared.Fact.TheVariants as fact
use Rattle.setting_text.specs.declared.Says.{Says}
use Rattle.setting_text.specs.declared.Says.TheVariants as say
use Rattle.setting_text.specs.declared.Field.{Field}
use Rattle.setting_text.specs.declared.Field.TheVariants as field
use Rattle.setting_text.specs.declared.Ask.{Ask}
use Rattle.setting_text.specs.declared.Ask.TheVariants as ask
use Rattle.setting_text.specs.declared.Heard.{Heard}
use Rattle.setting_text.specs.Texts.{first, others, same, number_of}

-- ---- where a line's numbers go: five single facts, a channel's fields, what a lane has besides

abbrev pub index : Field → ℕ
index field.Length = 0
index field.Spacecraft = 1
index field.Direction = 2
index field.Insert = 3
index field.Check = 4
index field.Channel = 5
index field.Service = 6
index field.Count = 7
index field.Ocf = 8
index field.Map = 9
index field.Upid = 10
index field.Longest = 11

-- A single fact has a field of its own.
abbrev pub field_of : Fact → Field
field_of fact.Length = field.Length
field_of fact.Spacecraft = field.Spacecraft
field_of fact.Direction = field.Direction
field_of fact.Insert = field.Insert
field_of fact.Check = field.Check

-- ---- the table

-- A word's place in a line: the words that may stand there, what is asked, and where the number goes, if anywhere.
pub record Item : Type 0 where
  pub keys : List (List ℕ)
  pub ask : Ask
  pub field : Option Field

unfoldable pub item : List (List ℕ) → Ask → Option Field → Item
item k a f = record { keys = k; ask = a; field = f }

-- This word, or else this was wanted.
abbrev pub word : List ℕ → Wanted → Item
word k w = item (k ∷ []) (ask.Word w) None

-- One of two words; its number is its place, 0 or 1.
abbrev pub either : List ℕ → List ℕ → Wanted → Field → Item
either k l w f = item (k ∷ l ∷ []) (ask.Word w) (Some f)

-- Yes or no.
abbrev pub yes_or_no : Field → Item
yes_or_no f = either (text "no") (text "yes") want.YesOrNo f

-- A number in this range.
abbrev pub from : ℕ → ℕ → Field → Item
from low high f = item [] (ask.Number low high) (Some f)

-- Nothing more, and this is what the line says, if anything.
abbrev pub end : Option Says → Item
end s = item [] (ask.End s) None

-- Source or destination, and nothing more.
abbrev pub direction_line : List Item
direction_line = either (text "source") (text "destination") want.Fact field.Direction ∷ end (Some (say.Fact fact.Direction)) ∷ []

-- The lines, one after another; docs/PROGRAMS.md has the same table.
unfoldable pub frame_lines : List Item
frame_lines =
    word (text "frame") want.Fact ∷ word (text "length") want.Length ∷ from 32 4096 field.Length ∷ end (Some (say.Fact fact.Length))
    ∷ word (text "spacecraft") want.Fact ∷ from 0 65535 field.Spacecraft ∷ end (Some (say.Fact fact.Spacecraft)) ∷ direction_line

-- A line without words says nothing.
unfoldable pub part_lines : List Item
part_lines =
    word (text "insert") want.Fact ∷ from 0 64 field.Insert ∷ end (Some (say.Fact fact.Insert))
    ∷ word (text "check") want.Fact ∷ yes_or_no field.Check ∷ end (Some (say.Fact fact.Check))
    ∷ end None ∷ []

-- Which channel it is, and then the rest of the line.
abbrev pub channel_name : Wanted → List Item → List Item
channel_name w rest =
    word (text "channel") w ∷ from 0 62 field.Channel ∷ word (text "service") want.Service ∷ from 0 1 field.Service ∷ rest

unfoldable pub channel_line : List Item
channel_line =
    channel_name want.Fact
    (word (text "count") want.Count ∷ from 1 7 field.Count ∷ word (text "ocf") want.Ocf ∷ yes_or_no field.Ocf ∷ end (Some say.Channel) ∷ [])

unfoldable pub lane_head : List Item
lane_head = word (text "lane") want.Fact ∷ channel_name want.Channel (word (text "map") want.Map ∷ from 0 15 field.Map ∷ [])

-- The longest unit, with which a lane's line ends.
abbrev pub longest_end : ℕ → List Item
longest_end low = word (text "longest") want.Longest ∷ from low 8192 field.Longest ∷ end (Some say.Lane) ∷ []

-- That word has the number 0, the UPID of packets.
unfoldable pub packets_end : List Item
packets_end = item (text "packets" ∷ []) (ask.Word want.Carries) (Some field.Upid) ∷ longest_end 2

unfoldable pub access_end : List Item
access_end = word (text "access") want.Carries ∷ from 1 30 field.Upid ∷ longest_end 1

abbrev pub lane_lines : List (List Item)
lane_lines = lane_head ∷ packets_end ∷ lane_head ∷ access_end ∷ []

unfoldable pub table : List (List Item)
table = frame_lines ∷ part_lines ∷ channel_line ∷ lane_lines

-- ---- a word, at its place in a line of the table

-- Which of these words it is, from n, if any.
unfoldable pub place : ℕ → List ℕ → List (List ℕ) → Option ℕ
place n w [] = None
place n w (k ∷ ks) = cond (same w k) (Some n) (place (n + 1) w ks)

-- A number in this range.
abbrev pub in_range : ℕ → ℕ → Option ℕ → Option ℕ
in_range low high None = None
in_range low high (Some n) = cond (low ≤? n && n ≤? high) (Some n) None

-- Its number, if it fits.
abbrev pub worth : Ask → List (List ℕ) → List ℕ → Option ℕ
worth (ask.Word t) k w = place 0 w k
worth (ask.Number low high) k w = in_range low high (number_of w)
worth (ask.End s) k w = cond (same w []) (Some 0) None

-- What was wanted in the place of a word that does not fit.
abbrev pub wanted : Ask → Wanted
wanted (ask.Word w) = w
wanted (ask.Number low high) = want.Number low high
wanted (ask.End s) = want.End

-- What the line says, where it ends here.
abbrev pub says : Ask → Option Says
says (ask.Word w) = None
says (ask.Number low high) = None
says (ask.End s) = s

-- ---- a line, held against the table

-- No word was heard yet.
abbrev pub fresh : Result (Option Says) Wanted → Heard
fresh s = record { numbers = replicate 12 0; count = 0; says = s }

-- The number goes to its field.
abbrev pub put : Option Field → ℕ → List ℕ → List ℕ
put None n ns = ns
put (Some f) n ns = set ns (index f) n

-- One more, up to 255.
abbrev pub counted : ℕ → ℕ
counted n = cond (n <? 255) (n + 1) n

-- One word more was asked for, and fits, or not.
abbrev pub noted_next : Ask → Option Field → Option ℕ → Heard → Heard
noted_next a f None h = record { numbers = h.numbers; count = h.count; says = Err (wanted a) }
noted_next a f (Some n) h = record { numbers = put f n h.numbers; count = counted h.count; says = Ok (says a) }

-- Once a word did not fit, none does.
abbrev pub noted_after : Result (Option Says) Wanted → Ask → Option Field → Option ℕ → Heard → Heard
noted_after (Err w) a f n h = h
noted_after (Ok s) a f n h = noted_next a f n h

abbrev pub noted : Ask → Option Field → Option ℕ → Heard → Heard
noted a f n h = noted_after h.says a f n h

-- The one of which more words fit, the first where as many do.
abbrev pub further : Heard → Heard → Heard
further b h = cond (b.count <? h.count) h b

-- The words of the line, those that are left, what is heard of them as the present line of the table, and as the best one before.
pub record Seen : Type 0 where
  pub all : List (List ℕ)
  pub rest : List (List ℕ)
  pub now : Heard
  pub best : Heard

-- After the end of a line of the table comes the begin of the line.
unfoldable pub turned : Ask → Heard → Seen → Seen
turned (ask.Word w) h s = record { all = s.all; rest = others s.rest; now = h; best = s.best }
turned (ask.Number low high) h s = record { all = s.all; rest = others s.rest; now = h; best = s.best }
turned (ask.End e) h s = record { all = s.all; rest = s.all; now = fresh (Ok None); best = further s.best h }

unfoldable pub step : Item → Seen → Seen
step i s = turned i.ask (noted i.ask i.field (worth i.ask i.keys (first s.rest)) s.now) s

unfoldable pub follow : List Item → Seen → Seen
follow [] s = s
follow (i ∷ is) s = follow is (step i s)

unfoldable pub through : List (List Item) → Seen → Seen
through [] s = s
through (p ∷ ps) s = through ps (follow p s)

-- The line of the table that these words follow furthest; where they follow none, a fact is asked for.
unfoldable pub heard : List (List ℕ) → Heard
heard ws = (through table (record { all = ws; rest = ws; now = fresh (Ok None); best = fresh (Err want.Fact) })).best
