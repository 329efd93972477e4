-- What the words after the setting come to, one after another, and which files may be read.
use Rattle.std.specs.Prelude.{ℕ, Bool, true, false, cond, ◌&&◌, get_or, set, replicate, Option, Some, None}
use Rattle.std.specs.Option.{is_none}
use Rattle.rules.specs.Tests.{◌≤?◌}
use Rattle.words.specs.declared.pack_start.Named.{Named}
use Rattle.words.specs.declared.pack_start.Named.TheVariants as names
use Rattle.words.specs.declared.pack_start.Bad.{Bad}
use Rattle.words.specs.declared.pack_start.Bad.TheVariants as bads
use Rattle.words.specs.declared.pack_start.Plan.{Plan}
use Rattle.words.specs.declared.pack_start.Objection.{Objection}
use Rattle.words.specs.declared.pack_start.Objection.TheVariants as objections
use Rattle.files.specs.declared.Known.{Known}
use Rattle.files.specs.Known.{same_file, is_there, is_regular}

-- Nothing is wrong with the words.
unfoldable pub fine : Option Bad → Bool
fine None = true
fine (Some bad) = false

unfoldable pub no_plan : Plan
no_plan = record { insert = None; ocf = None; bad = None; lanes = false; units = false; named = replicate 8 false }

abbrev pub bad_plan : Plan → Option Bad → Plan
bad_plan p b = record { insert = p.insert; ocf = p.ocf; bad = b; lanes = p.lanes; units = p.units; named = p.named }

-- "Each lane is then named once": the plan after a word that names lane l's file. That it is named is kept.
unfoldable pub lane_plan : Plan → ℕ → Bool → Bool → Plan
lane_plan p l access once =
    cond (8 ≤? l) (bad_plan p (Some bads.NoName))
    (cond (once && get_or p.named l false) (bad_plan p (Some bads.LaneTwice))
    (record { insert = p.insert; ocf = p.ocf; bad = p.bad; lanes = true; units = access; named = set p.named l true }))

-- The plan after word i with this name. A list is "the next word after the LANE=FILE of an access lane (options aside)"; insert and OCF octets
-- are named "at most once each".
unfoldable pub plan_on : Plan → ℕ → Named → Bool → Bool → Plan
plan_on p i (names.ToLane l) access once = lane_plan p l access once
plan_on p i names.Lengths access once =
    cond p.units (record { insert = p.insert; ocf = p.ocf; bad = p.bad; lanes = p.lanes; units = false; named = p.named })
    (bad_plan p (Some bads.NoUnits))
plan_on p i names.Insert access once =
    cond (is_none p.insert) (record { insert = Some i; ocf = p.ocf; bad = p.bad; lanes = p.lanes; units = false; named = p.named })
    (bad_plan p (Some bads.InsertTwice))
plan_on p i names.Ocf access once =
    cond (is_none p.ocf) (record { insert = p.insert; ocf = Some i; bad = p.bad; lanes = p.lanes; units = false; named = p.named })
    (bad_plan p (Some bads.OcfTwice))
plan_on p i names.Option access once = p
plan_on p i names.Other access once = bad_plan p (Some bads.NoName)

-- ---- which files may be read

-- "No file that is read may be standard output"; what is no regular file is refused where it would be read twice.
unfoldable pub objection_to : Option Known → Option Known → Bool → Option Objection
objection_to k out twice =
    cond (is_there is_regular k) (cond (same_file k out) (Some objections.Output) None) (cond twice (Some objections.NotRegular) None)
