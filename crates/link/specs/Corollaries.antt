-- What follows from demand 3, in the words in which it will be quoted: which units come out where nothing is gone, everything is gone, or nothing
-- is gone from here on; and which octets a run refuses.
use Rattle.std.specs.Prelude.{◌≡◌, ℕ, zero, suc, Bool, true, cond, not, ◌&&◌, List, [], ◌∷◌, ◌++◌, Option, Some, None}
use Rattle.rules.specs.declared.Setting.{Setting}
use Rattle.rules.specs.declared.Writer.{Writer}
use Rattle.rules.specs.declared.Class.{Class}
use Rattle.rules.specs.Tests.{◌=?◌, given}
use Rattle.rules.specs.Settings.{number}
use Rattle.rules.specs.Refusals.{refusals}
use Rattle.rules.specs.Calls.{Got, set_up_writer}
use Rattle.link.specs.Link.{Call, called, Frame, place_of, frame_by, Event, Writes, Copy, Stray, arrives, place_in, flown, sent, Arrival, octets_in, handed_out}
use Rattle.link.specs.Due.{ending, none_gone, due}
use Rattle.link.specs.Demand.{frames_of, arrivals_of, reads_of, Run, Near}

-- ---- what comes out, and what there is to come out

-- The units of lane l's batch that begins with this frame: one that starts with the batch's octet 0.
abbrev pub begun_in : ℕ → Frame → List (List ℕ)
begun_in l f = cond (f.lane =? l && f.start =? 0) f.units []

-- The units of lane l that end in this frame.
abbrev pub ended_in : ℕ → Frame → List (List ℕ)
ended_in l f = cond (f.lane =? l) (ending f.start f.stop (λ (i : ℕ). true) (λ (a : ℕ) (u : List ℕ). u) 0 f.units) []

-- Of all these frames, in sending order, whatever becomes of them: the units of batches that begin, and the units that end.
unfoldable pub units_sent : ℕ → List Frame → List (List ℕ)
units_sent l [] = []
units_sent l (f ∷ fs) = begun_in l f ++ units_sent l fs

unfoldable pub units_ended : ℕ → List Frame → List (List ℕ)
units_ended l [] = []
units_ended l (f ∷ fs) = ended_in l f ++ units_ended l fs

-- The state that calls leave at the writer.
unfoldable pub after_calls : Writer → List (Event Call) → Writer
after_calls w [] = w
after_calls w (Writes x ∷ es) = after_calls (called w x).sender.state es
after_calls w (Copy c lent ∷ es) = after_calls w es
after_calls w (Stray f lent ∷ es) = after_calls w es

-- After these events lane l stands between batches: its next frame is the first of one.
abbrev pub Between : Setting → List (Event Call) → ℕ → Type 0
Between s es l = number (after_calls (set_up_writer s).state es) l ≡ 0

-- The frames of the events xs, which ys follow: a copy of one that is still sent then may arrive among these.
unfoldable pub sent_before : Setting → Writer → List (Event Call) → List (Event Call) → List Frame
sent_before s w [] ys = []
sent_before s w (Writes x ∷ xs) ys = frame_by s w x (arrives (place_in s) (place_in s x) (xs ++ ys)) ∷ sent_before s (called w x).sender.state xs ys
sent_before s w (Copy c lent ∷ xs) ys = sent_before s w xs ys
sent_before s w (Stray f lent ∷ xs) ys = sent_before s w xs ys

abbrev pub earlier : Setting → List (Event Call) → List (Event Call) → List Frame
earlier s xs ys = sent_before s (set_up_writer s).state xs ys

-- The frames of the later events ys.
abbrev pub later : Setting → List (Event Call) → List (Event Call) → List Frame
later s xs ys = sent (flown s (after_calls (set_up_writer s).state xs) ys)

-- Every frame is kept; every frame is gone.
unfoldable pub all_kept : List Frame → Bool
all_kept [] = true
all_kept (f ∷ fs) = f.kept && all_kept fs

unfoldable pub all_gone : List Frame → Bool
all_gone [] = true
all_gone (f ∷ fs) = not f.kept && all_gone fs

-- ---- what follows from the demand

-- "Nothing gone and the last batch of a lane finished: all its units come out, in order." However long the run: no bound is asked for.
abbrev pub NothingGone : Type 0
NothingGone =
    (s : Setting) (held : List ℕ) (es : List (Event Call)) → Run s held es → all_kept (frames_of s es) ≡ true
    → (l : ℕ) → Between s es l → octets_in (handed_out l (reads_of s held es)) ≡ units_sent l (frames_of s es)

-- "Everything gone: nothing comes out." Whatever refused octets stand in the frames' places.
abbrev pub EverythingGone : Type 0
EverythingGone =
    (s : Setting) (held : List ℕ) (es : List (Event Call)) → Run s held es → all_gone (frames_of s es) ≡ true
    → (l : ℕ) → handed_out l (reads_of s held es) ≡ []

-- "Whatever was lost before, once the lane stands between batches and its channel loses no more, every later unit comes out": after what
-- was due in the earlier frames, all units that end in the later ones.
abbrev pub NoMoreGone : Type 0
NoMoreGone =
    (s : Setting) (held : List ℕ) (xs ys : List (Event Call)) → Run s held (xs ++ ys) → Near s (xs ++ ys)
    → (l : ℕ) → Between s xs l → none_gone (place_of s l) (later s xs ys) ≡ true
    → octets_in (handed_out l (reads_of s held (xs ++ ys))) ≡ octets_in (due l [] (earlier s xs ys)) ++ units_ended l (later s xs ys)

-- Where the lane stands between batches at the end too, these are all units of its later batches.
abbrev pub LaterBatches : Type 0
LaterBatches =
    (s : Setting) (held : List ℕ) (xs ys : List (Event Call)) → Run s held (xs ++ ys) → (l : ℕ) → Between s xs l → Between s (xs ++ ys) l
    → units_ended l (later s xs ys) ≡ units_sent l (later s xs ys)

-- ---- refused octets

-- The number that a read is refused by, if it is.
unfoldable pub end_of : Class → Option ℕ
end_of Class.Idle = None
end_of Class.Counted = None
end_of Class.Read = None
end_of Class.Repeat = None
end_of (Class.Refused n) = Some n

unfoldable pub ends : List Got → List (Option ℕ)
ends [] = []
ends (o ∷ os) = end_of o.taken.answer.class ∷ ends os

-- Refused by this number; 0 is none.
unfoldable pub refused_by : ℕ → Option ℕ
refused_by zero = None
refused_by (suc n) = Some (suc n)

-- What refusals 3 to 12 say of octets: the first that applies.
unfoldable pub applying : Setting → List Arrival → List (Option ℕ)
applying s [] = []
applying s (a ∷ more) = refused_by (given (refusals s a.octets)) ∷ applying s more

-- "Octets refused in a run are exactly those to which one of 3 to 12 applies", and by that number: 1 and 2 refuse nothing in a run.
abbrev pub RefusedOctets : Type 0
RefusedOctets = (s : Setting) (held : List ℕ) (es : List (Event Call)) → Run s held es → ends (reads_of s held es) ≡ applying s (arrivals_of s es)

-- Of what arrives, the octets to which one of 3 to 12 applies; and the octets that arrive besides copies.
unfoldable pub refused_of : Setting → List Arrival → List (List ℕ)
refused_of s [] = []
refused_of s (a ∷ more) = cond (given (refusals s a.octets) =? 0) [] (a.octets ∷ []) ++ refused_of s more

unfoldable pub strays : List (Event Call) → List (List ℕ)
strays [] = []
strays (Writes x ∷ es) = strays es
strays (Copy c lent ∷ es) = strays es
strays (Stray f lent ∷ es) = f ∷ strays es

-- These are the same: no copy of a frame is refused.
abbrev pub KeptAccepted : Type 0
KeptAccepted = (s : Setting) (held : List ℕ) (es : List (Event Call)) → Run s held es → refused_of s (arrivals_of s es) ≡ strays es
