-- The setting as a text: what its lines come to, one after another, and what a whole text is.
use Rattle.std.specs.Prelude.{ℕ, ◌+◌, ◌-◌, Bool, cond, not, List, [], ◌∷◌, get_or, set, Option, Some, None, is_some, Result, Ok, Err}
use Rattle.std.specs.Bool.{beq}
use Rattle.rules.specs.declared.Kind.TheVariants as kinds
use Rattle.rules.specs.declared.Channel.{Channel}
use Rattle.rules.specs.declared.Lane.{Lane}
use Rattle.rules.specs.declared.Setting.{Setting}
use Rattle.rules.specs.Tests.{◌≤?◌, ◌=?◌, none, at}
use Rattle.rules.specs.Tests as tests
use Rattle.rules.specs.Settings.{channel, zone, setting_ok, no_setting}
use Rattle.rules.specs.Refusals.{channel_at, lane_at}
use Rattle.setting_text.specs.Texts.{lines, said, words}
use Rattle.setting_text.specs.Table.{index, field_of, heard}
use Rattle.setting_text.specs.declared.Wanted.{Wanted}
use Rattle.setting_text.specs.declared.Wanted.TheVariants as want
use Rattle.setting_text.specs.declared.Fact.{Fact}
use Rattle.setting_text.specs.declared.Fact.TheVariants as fact
use Rattle.setting_text.specs.declared.Field.{Field}
use Rattle.setting_text.specs.declared.Field.TheVariants as field
use Rattle.setting_text.specs.declared.Says.{Says}
use Rattle.setting_text.specs.declared.Says.TheVariants as say
use Rattle.setting_text.specs.declared.Misfit.{Misfit}
use Rattle.setting_text.specs.declared.Finding.{Finding}
use Rattle.setting_text.specs.declared.Finding.TheVariants as finds
use Rattle.setting_text.specs.declared.Heard.{Heard}
use Rattle.setting_text.specs.declared.Draft.{Draft}

-- ---- what was said so far: single facts, and a setting with what is listed

-- Nothing was said.
unfoldable pub nothing : Draft
nothing = record { length = None; craft = None; bit = None; insert = None; check = None; lists = no_setting }

-- "What should stand in the place of the first word that does not fit": that word, from 0, and this was wanted.
abbrev pub refuse : ℕ → Wanted → Result Draft Misfit
refuse k w = Err (record { word = Some k; wanted = w })

-- "Where all words fit, it is what the lines before forbid."
abbrev pub forbid : Wanted → Result Draft Misfit
forbid w = Err (record { word = None; wanted = w })

-- ---- single facts

abbrev pub is_told : Fact → Draft → Bool
is_told fact.Length d = is_some d.length
is_told fact.Spacecraft d = is_some d.craft
is_told fact.Direction d = is_some d.bit
is_told fact.Insert d = is_some d.insert
is_told fact.Check d = is_some d.check

-- The fact's field, and no other, gets the number.
abbrev pub with_fact : Fact → ℕ → Draft → Draft
with_fact fact.Length n d = record d { length = Some n }
with_fact fact.Spacecraft n d = record d { craft = Some n }
with_fact fact.Direction n d = record d { bit = Some n }
with_fact fact.Insert n d = record d { insert = Some n }
with_fact fact.Check n d = record d { check = Some (n =? 1) }

-- "A fact of the first five said twice."
abbrev pub add_fact : Fact → ℕ → Draft → Result Draft Misfit
add_fact f n d = cond (is_told f d) (forbid want.NewFact) (Ok (with_fact f n d))

-- ---- channels and lanes, numbered by their lines

abbrev pub with_channel : Channel → Draft → Draft
with_channel c d =
    record d { lists = record d.lists { listed = d.lists.listed + 1; channels = set d.lists.channels d.lists.listed c } }

abbrev pub with_lane : Lane → Draft → Draft
with_lane l d =
    record d { lists = record d.lists { numbered = d.lists.numbered + 1; lanes = set d.lists.lanes d.lists.numbered l } }

-- "An OCF unlike that of the other channel of that virtual channel."
abbrev pub ocf_unlike : Setting → Channel → Bool
ocf_unlike s c = at (channel_at s c.vc (1 - c.service)) (λ (i : ℕ). not (beq (channel s i).ocf c.ocf))

-- "A channel listed twice"; "a ninth channel".
abbrev pub add_channel : Channel → Draft → Result Draft Misfit
add_channel c d =
    cond (none (channel_at d.lists c.vc c.service))
    (cond (ocf_unlike d.lists c) (forbid want.SameOcf)
    (cond (8 ≤? d.lists.listed) (forbid want.FewerChannels) (Ok (with_channel c d))))
    (forbid want.NewChannel)

abbrev pub number : List ℕ → Field → ℕ
number ns f = get_or ns (index f) 0

-- The channel of a line's numbers.
abbrev pub channel_of : List ℕ → Channel
channel_of ns =
    record { vc = number ns field.Channel; service = number ns field.Service; octets = number ns field.Count; ocf = number ns field.Ocf =? 1 }

-- "A second lane of that channel and map"; "a ninth lane".
abbrev pub add_lane : Lane → Draft → Result Draft Misfit
add_lane l d =
    cond (none (lane_at d.lists l.channel l.map))
    (cond (8 ≤? d.lists.numbered) (forbid want.FewerLanes) (Ok (with_lane l d)))
    (forbid want.NewMap)

-- The lane of a line's numbers. "Packet lane: UPID 0. Access lane: UPID 1 to 30."
abbrev pub lane_of : ℕ → List ℕ → Lane
lane_of c ns =
    record {
      channel = c;
      map = number ns field.Map;
      kind = cond (number ns field.Upid =? 0) kinds.Packets kinds.Access;
      longest = number ns field.Longest;
      upid = number ns field.Upid;
    }

-- "A lane of a channel that is not listed."
abbrev pub add_lane_of : Option ℕ → List ℕ → Draft → Result Draft Misfit
add_lane_of (Some c) ns d = add_lane (lane_of c ns) d
add_lane_of None ns d = forbid want.ListedChannel

-- ---- a line

-- The line's words fit up to its end, and it says this, or the first word after those that fit does not.
abbrev pub take_heard : Result (Option Says) Wanted → Heard → Draft → Result Draft Misfit
take_heard (Err w) h d = refuse h.count w
take_heard (Ok None) h d = Ok d
take_heard (Ok (Some (say.Fact f))) h d = add_fact f (number h.numbers (field_of f)) d
take_heard (Ok (Some say.Channel)) h d = add_channel (channel_of h.numbers) d
take_heard (Ok (Some say.Lane)) h d =
    add_lane_of (channel_at d.lists (number h.numbers field.Channel) (number h.numbers field.Service)) h.numbers d

unfoldable pub take_line : Draft → List ℕ → Result Draft Misfit
take_line d l =
    let h : Heard = heard (words (said l)) in
    take_heard h.says h d

-- ---- the text

-- What comes of it, and the first refusal otherwise.
abbrev pub then : {A B E : Type 0} → Result A E → (A → Result B E) → Result B E
then (Ok x) k = k x
then (Err e) k = Err e

-- Line n was taken, or is the first that does not fit.
abbrev pub line_taken : ℕ → Result Draft Misfit → Result Draft Finding
line_taken n (Ok d) = Ok d
line_taken n (Err m) = Err (finds.Line n m)

-- From line n on, up to the first that does not fit.
unfoldable pub gather : ℕ → Draft → List (List ℕ) → Result Draft Finding
gather n d [] = Ok d
gather n d (l ∷ ls) = then (line_taken n (take_line d l)) (λ (e : Draft). gather (n + 1) e ls)

-- This was said; if not, it is what is missing.
abbrev pub needed : {A : Type 0} → Option A → Says → (A → Result Setting Says) → Result Setting Says
needed (Some x) s k = k x
needed None s k = Err s

-- "Something was never said, the first of: frame length, spacecraft, source or destination, insert, check, a channel, a lane."
abbrev pub completed : Draft → Result Setting Says
completed d =
    needed d.length (say.Fact fact.Length) (λ (length : ℕ).
    needed d.craft (say.Fact fact.Spacecraft) (λ (craft : ℕ).
    needed d.bit (say.Fact fact.Direction) (λ (bit : ℕ).
    needed d.insert (say.Fact fact.Insert) (λ (insert : ℕ).
    needed d.check (say.Fact fact.Check) (λ (check : Bool).
    cond (d.lists.listed =? 0) (Err say.Channel)
    (cond (d.lists.numbered =? 0) (Err say.Lane)
    (Ok (record d.lists { length = length; craft = craft; bit = bit; insert = insert; check = check }))))))))

-- A text lacks what was never said.
abbrev pub lacking : Result Setting Says → Result Setting Finding
lacking (Ok s) = Ok s
lacking (Err s) = Err (finds.Lacks s)

-- "The first channel whose zone has no octet."
unfoldable pub zoneless : Setting → Option ℕ
zoneless s = tests.first s.listed (λ (i : ℕ). zone s (channel s i) =? 0)

-- A setting that has its zones is valid.
abbrev pub judged : Option ℕ → Setting → Result Setting Finding
judged (Some i) s = Err (finds.Zone (channel s i).vc (channel s i).service)
judged None s = cond (setting_ok s) (Ok s) (Err finds.Other)

-- The setting where it is found good, or the first thing that is wrong.
unfoldable pub parsed : List ℕ → Result Setting Finding
parsed t =
    then (gather 1 nothing (lines t)) (λ (d : Draft).
    then (lacking (completed d)) (λ (s : Setting). judged (zoneless s) s))
