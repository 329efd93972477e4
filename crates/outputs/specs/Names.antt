-- The files that unpack writes: which, and what they are called.
use Rattle.std.specs.Prelude.{ℕ, suc, ◌-◌, ◌≤◌, ◌≡◌, Bool, true, false, cond, List, [], ◌∷◌, ◌++◌, length, take, set, replicate, Option, Some, None, Result, Ok, Err, ⊤}
use Rattle.rules.specs.Tests.{◌<?◌, ◌=?◌}
use Rattle.rules.specs.Listing.{text, decimal}
use Rattle.files.specs.declared.Known.{Known}
use Rattle.files.specs.Known.{same_file, is_regular}
use Rattle.outputs.specs.declared.Plan.{Plan}
use Rattle.outputs.specs.declared.Name.{Name}
use Rattle.outputs.specs.declared.Failed.{Failed}
use Rattle.outputs.specs.declared.Stage.{Stage}
use Rattle.outputs.specs.declared.Kept.{Kept}
use Rattle.outputs.specs.declared.Obstacle.{Obstacle}
use Rattle.outputs.specs.declared.Obstacle.TheVariants.{Setting, Recording, Printed, Said, Strange}

-- A file for each lane that there is, the table where it is asked for, and the records.
unfoldable pub has_output : Plan → ℕ → Bool
has_output p i = cond (i <? 8) (i <? p.lanes) (cond (i =? 8) p.table (i =? 9))

-- What follows the prefix in the name of output i.
unfoldable pub ending : ℕ → List ℕ
ending i = cond (i <? 8) (text ".lane" ++ decimal i) (cond (i =? 8) (text ".units.csv") (text ".records"))

-- What follows that in the name of an unfinished file, and of an earlier one that is put aside.
unfoldable pub mark : Bool → ℕ → List ℕ
mark old number = text "." ++ decimal number ++ cond old (text ".old") (text ".part")

-- The name of output i. Of a prefix 4,096 octets at most: no word of a command line has more, and the system takes no name that has so many.
unfoldable pub finished : List ℕ → ℕ → List ℕ
finished prefix i = take 4096 prefix ++ ending i

-- A name that is made: that of output i, and the mark behind it.
pub record Named (prefix : List ℕ) (i : ℕ) (m : List ℕ) (w : Name) : Type 0 where
  pub short : take w.at w.octets ≡ finished prefix i
  pub long : take w.end w.octets ≡ finished prefix i ++ m
  pub order : w.at ≤ w.end
  pub room : w.end ≤ length w.octets

-- Of a regular file: what is printed or said may stand in it.
unfoldable pub plain_fit : Option Known → Option Known → Option Known → Option Obstacle
plain_fit k printed said = cond (same_file k printed) (Some Printed) (cond (same_file k said) (Some Said) None)

-- Of what is there and no input.
abbrev pub other_fit : Option Known → Kept → Option Obstacle
other_fit None f = None
other_fit (Some k) f = cond (is_regular k) (plain_fit (Some k) f.printed f.said) (Some Strange)

-- "No output may be one of the inputs", and what an output replaces is a regular file, into which nothing is printed or said.
unfoldable pub fit_of : Option Known → Kept → Option Obstacle
fit_of k f = cond (same_file k f.setting) (Some Setting) (cond (same_file k f.recording) (Some Recording) (other_fit k f))

-- ---- giving the names

-- Earlier files are put aside in this order: the records, then lane by lane, then the table.
unfoldable pub aside_turn : ℕ → ℕ
aside_turn k = cond (k =? 0) 9 (k - 1)

-- Nothing is put aside, and no name is given.
unfoldable pub no_stage : Stage
no_stage = record { aside = replicate 10 false; given = replicate 10 false }

-- What had the name of output i is put aside, or there was none, or it could not be done.
unfoldable pub put_aside : Stage → ℕ → Result Bool Failed → Stage
put_aside s i (Ok true) = record { aside = set s.aside i true; given = s.given }
put_aside s i (Ok false) = s
put_aside s i (Err e) = s

-- Whether that could be done.
abbrev pub went : Result Bool Failed → Result ⊤ Failed
went (Ok there) = Ok tt
went (Err e) = Err e

-- Output i has its name, or it could not be given.
unfoldable pub gave : Stage → ℕ → Result ⊤ Failed → Stage
gave s i (Ok done) = record { aside = s.aside; given = set s.given i true }
gave s i (Err e) = s

-- How many octets a prefix has up to its last `/`, after n octets of which e are up to it.
unfoldable pub last_slash : ℕ → ℕ → List ℕ → ℕ
last_slash n e [] = e
last_slash n e (x ∷ xs) = last_slash (suc n) (cond (x =? 47) (suc n) e) xs
