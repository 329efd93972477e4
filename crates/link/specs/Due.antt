-- What is due on a lane: the units that end in a frame of the run, and for which no frame of the channel is gone from the frame
-- where the unit begins to the frame where it ends. Both are told by octets of the batch. With each stand the count of the frame where it ends, and
-- the number of the lane's frames from the one where it begins to that one.
use Rattle.std.specs.Prelude.{ℕ, ◌+◌, Bool, true, cond, ◌&&◌, List, [], ◌∷◌, ◌++◌, length}
use Rattle.rules.specs.Tests.{◌≤?◌, ◌<?◌, ◌=?◌}
use Rattle.link.specs.Link.{Frame, Filed}

-- Of units back to back from octet a of a batch on, those that end in a frame that has its octets from `start` up to `stop`, and whose first
-- octet passes; what is said of each goes by its first octet.
unfoldable pub ending {ℓ} : {A : Type ℓ} → ℕ → ℕ → (ℕ → Bool) → (ℕ → List ℕ → A) → ℕ → List (List ℕ) → List A
ending start stop p say a [] = []
ending start stop p say a (u ∷ us) =
    cond (start <? (a + length u) && (a + length u) ≤? stop && p a) (say a u ∷ []) [] ++ ending start stop p say (a + length u) us

-- Of the frames sent so far, the last one first: back to the frame where octet a of the batch is that lane l is at, the last frame of lane l
-- that starts with that octet or before it.
unfoldable pub back_to : ℕ → ℕ → List Frame → List Frame
back_to l a [] = []
back_to l a (f ∷ fs) = f ∷ cond (f.lane =? l && f.start ≤? a) [] (back_to l a fs)

-- "No frame of that channel and service is gone."
unfoldable pub none_gone : ℕ → List Frame → Bool
none_gone c [] = true
none_gone c (f ∷ fs) = cond (f.channel =? c) f.kept true && none_gone c fs

-- None of lane l's channel c is gone from the frame where octet a of that batch is to the last frame sent, both included.
unfoldable pub clean : ℕ → ℕ → List Frame → ℕ → Bool
clean l c past a = none_gone c (back_to l a past)

-- How many of these frames are lane l's.
unfoldable pub frames_on : ℕ → List Frame → ℕ
frames_on l [] = 0
frames_on l (f ∷ fs) = cond (f.lane =? l) 1 0 + frames_on l fs

-- "The number of the lane's frames from the one where it begins to that one": from the frame where octet a of the batch is to the last frame sent.
unfoldable pub span_back : ℕ → List Frame → ℕ → ℕ
span_back l past a = frames_on l (back_to l a past)

-- The units of lane l that end in the last frame sent.
unfoldable pub due_in : ℕ → Frame → List Frame → List Filed
due_in l f past =
    cond (f.lane =? l)
    (ending f.start f.stop (clean l f.channel (f ∷ past))
    (λ (a : ℕ) (u : List ℕ). record { octets = u; count = f.count; span = span_back l (f ∷ past) a }) 0 f.units) []

-- Those of all frames, "in sending order", after the frames of the past.
unfoldable pub due : ℕ → List Frame → List Frame → List Filed
due l past [] = []
due l past (f ∷ fs) = due_in l f past ++ due l (f ∷ past) fs
