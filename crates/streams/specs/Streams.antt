-- What the next batch of a lane's file is: what the windows hold is what was read, and all else follows from it.
use Rattle.std.specs.Prelude.{ℕ, ◌+◌, ◌-◌, ◌≤◌, min, ◌≡◌, Bool, cond, Option, Some, None, is_none, Result, Ok, Err, List, length, take, drop}
use Rattle.std.specs.Result.{result_err}
use Rattle.rules.specs.Tests.{◌<?◌, ◌=?◌}
use Rattle.streams.specs.declared.file_batches.Wrong.{Wrong}
use Rattle.streams.specs.FileBatches.{gathered, wrong_at}
use Rattle.intake.specs.declared.Window.{Window}
use Rattle.streams.specs.Lengths.{Word, next_of as next_length}
use Rattle.streams.specs.declared.Fault.{Fault}
use Rattle.streams.specs.declared.Fault.TheVariants as faults
use Rattle.streams.specs.declared.Form.{Form}
use Rattle.streams.specs.declared.Form.TheVariants as forms
use Rattle.streams.specs.declared.Stream.{Stream}
use Rattle.streams.specs.declared.Batch.{Batch}
use Rattle.streams.specs.declared.Begun.{Begun}

-- ---- faults

abbrev pub sound : Option Fault → Bool
sound f = is_none f

-- ---- windows

unfoldable pub past : ℕ → ℕ → ℕ
past at n = min (at + n) 18446744073709551615

-- The window after n of the octets that it holds.
unfoldable pub moved : Window → ℕ → ℕ → Window
moved w have n = record { have = have - n; at = past w.at n; good = w.good }

-- What was read stands behind what the window held, and that is as it was.
pub record Kept (w : Window) (area : List ℕ) (w' : Window) (area' : List ℕ) : Type 0 where
  pub more : w.have ≤ w'.have
  pub at : w'.at ≡ w.at
  pub kept : take w.have area' ≡ take w.have area

-- ---- the next batch

-- A batch, none, or what is wrong.
abbrev pub Next : Type 0
Next = Result (Option Batch) Fault

abbrev pub none : Next
none = Ok None

abbrev pub some : ℕ → ℕ → Next
some n used = Ok (Some (record { octets = n; used = used }))

-- "N is the octet of the file, from 0, at which the bad packet begins."
unfoldable pub wrong_fault : ℕ → Option Wrong → Next
wrong_fault at None = none
wrong_fault at (Some w) = Err (faults.Packet at w)

-- "As many whole packets in each as fit"; where there is none, what is wrong with the packet at the front, if anything is.
unfoldable pub next_packets : ℕ → ℕ → List ℕ → Next
next_packets at longest xs = cond (gathered longest xs =? 0) (wrong_fault at (wrong_at longest xs)) (some (gathered longest xs) 0)

-- "An access lane's file is one unit, of 1 octet up to the lane's longest", and after it there is none.
unfoldable pub next_unit : ℕ → ℕ → List ℕ → Next
next_unit at longest xs =
    cond (at =? 0)
    (cond (length xs =? 0) (Err faults.NoUnit)
    (cond (longest <? length xs) (Err faults.LongUnit) (some (length xs) 0)))
    none

-- "Each is the length of a unit, 1 up to the lane's longest", and no unit is cut: a length of n at octet `place` of the list, for a file that has
-- `have` more octets at octet `at`.
unfoldable pub of_length : ℕ → ℕ → ℕ → ℕ → ℕ → ℕ → Next
of_length n used place at longest have =
    cond (n =? 0) (Err (faults.NoLength place))
    (cond (longest <? n) (Err (faults.NoLength place))
    (cond (have <? n) (Err (faults.CutUnit at)) (some n used)))

-- By what stands next in the list. "Together they are exactly the octets of the lane's file."
unfoldable pub by_length : Word → ℕ → ℕ → ℕ → ℕ → ℕ → Next
by_length (Ok None) used place at longest have = cond (have =? 0) none (Err (faults.Left at))
by_length (Ok (Some n)) used place at longest have = of_length n used place at longest have
by_length (Err e) used place at longest have = Err (faults.NoLength place)

unfoldable pub next_listed : ℕ → ℕ → ℕ → List ℕ → List ℕ → Next
next_listed at place longest xs ls =
    by_length (next_length ls).length (next_length ls).used (past place (next_length ls).blanks) at longest (length xs)

unfoldable pub by_form : Form → Stream → List ℕ → List ℕ → Next
by_form forms.Packets s xs ls = next_packets s.window.at s.longest xs
by_form forms.Unit s xs ls = next_unit s.window.at s.longest xs
by_form forms.Units s xs ls = next_listed s.window.at s.list.at s.longest xs ls

-- The next batch of a file with these octets in its window and in the one on its list.
unfoldable pub next_of : Stream → List ℕ → List ℕ → Next
next_of s xs ls = cond s.window.good (cond s.list.good (by_form s.form s xs ls) (Err faults.NotListed)) (Err faults.NotRead)

abbrev pub no_batch : Batch
no_batch = record { octets = 0; used = 0 }

-- The batch that is next, one of no octets where there is none.
abbrev pub batch_of : Next → Batch
batch_of (Ok (Some b)) = b
batch_of (Ok None) = no_batch
batch_of (Err f) = no_batch

abbrev pub with_batch : Stream → Window → ℕ → Stream
with_batch s list n = record { window = s.window; list = list; batch = n; lane = s.lane; longest = s.longest; form = s.form }

-- A batch begun: it stands at the front of the file's window, and the list's window holds what was behind its length.
pub record BegunOf (s : Stream) (n : Next) (ls : List ℕ) (r : Begun) (ls' : List ℕ) : Type 0 where
  pub stream : r.stream ≡ with_batch s (moved s.list (length ls) (batch_of n).used) (batch_of n).octets
  pub fault : r.fault ≡ result_err n
  pub left : take r.stream.list.have ls' ≡ drop (batch_of n).used ls

abbrev pub Began : Stream → List ℕ → List ℕ → Begun → List ℕ → Type 0
Began s xs list r list' = BegunOf s (next_of s xs (take s.list.have list)) (take s.list.have list) r list'
