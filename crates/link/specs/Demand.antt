-- Demand 3. Two fresh ends of one accepted setting, a list of calls of the writer, a sender that may send each frame several times running (document
-- 02, A3), and a link that loses copies: lane by lane, what the reads hand out is, in sending order and octet for octet, the list of exactly those
-- units that lost no frame, and their records have the counts and spans of the frames written (document 02, A2).
use Rattle.std.specs.Prelude.{◌≡◌, ◌⊎◌, ℕ, suc, ◌-◌, ◌^◌, ◌<◌, Bool, true, false, cond, not, ◌&&◌, ◌||◌, List, [], ◌∷◌, ◌++◌, length, Ok}
use Rattle.rules.specs.declared.Setting.{Setting}
use Rattle.rules.specs.declared.Writer.{Writer}
use Rattle.rules.specs.Tests.{◌≤?◌, ◌<?◌, ◌=?◌, ◌≠?◌, given}
use Rattle.rules.specs.Settings.{channel, number}
use Rattle.rules.specs.Refusals.{refusals}
use Rattle.rules.specs.Calls.{set_up_reader, set_up_writer, Got}
use Rattle.link.specs.Link.{Call, called, Frame, Lent, Event, Writes, Copy, Stray, flown, sent, Arrival, silence, arrivals, reads, handed_out}
use Rattle.link.specs.Due.{due}
use Rattle.rules.specs.Areas.{held_size, records_size, units_size}

-- ---- the writer's calls

-- Lane l last lent this batch, and each other lane the one it did before.
unfoldable pub lending : ℕ → List ℕ → (ℕ → List ℕ) → ℕ → List ℕ
lending l batch last i = cond (i =? l) batch (last i)

-- "Each accepted and handed the state that the last one left, batches worked off in order, lanes in any mixture, the last batches
-- perhaps unfinished": where a lane's next frame number is not 0, the call lends the batch that the lane last lent.
abbrev pub InOrder : Writer → (ℕ → List ℕ) → List (Event Call) → Type 0
InOrder w last [] = Unit {0}
InOrder w last (Writes x ∷ es) =
    ((called w x).sender.outcome ≡ Ok tt)
    × ((number w x.lane ≡ 0) ⊎ (x.batch ≡ last x.lane))
    × InOrder (called w x).sender.state (lending x.lane x.batch last) es
InOrder w last (Copy c lent ∷ es) = InOrder w last es
InOrder w last (Stray f lent ∷ es) = InOrder w last es

-- ---- the link

-- "Areas of the size asked for."
unfoldable pub enough : Lent → Bool
enough a = units_size ≤? length a.units && records_size ≤? length a.records

-- Octets that change nothing. "Refused octet strings": one of refusals 3 to 12 applies, which look at the octets and the setting alone.
unfoldable pub inert : Setting → List ℕ → Bool
inert s f = given (refusals s f) ≠? 0

-- "Every read lent areas of the size asked for"; what arrives besides copies, in the place of frames that are gone or anywhere else, is refused.
unfoldable pub passes : Setting → Event Call → Bool
passes s (Writes x) = true
passes s (Copy c lent) = enough lent
passes s (Stray f lent) = inert s f && enough lent

unfoldable pub all_pass : Setting → List (Event Call) → Bool
all_pass s [] = true
all_pass s (e ∷ es) = passes s e && all_pass s es

-- Of the frames of channel c, whether each is kept.
unfoldable pub kept_on : ℕ → List Frame → List Bool
kept_on c [] = []
kept_on c (f ∷ fs) = cond (f.channel =? c) (f.kept ∷ []) [] ++ kept_on c fs

-- "Between two kept frames fewer gone than" m. So far g are gone since the last kept one, if `any` was kept.
unfoldable pub few_gone : ℕ → Bool → ℕ → List Bool → Bool
few_gone m any g [] = true
few_gone m any g (true ∷ ks) = (not any || g <? m) && few_gone m true 0 ks
few_gone m any g (false ∷ ks) = few_gone m any (suc g) ks

-- ---- the demand

-- What happens in a run, its frames, and what its reads give: both ends are fresh.
abbrev pub flown_of : Setting → List (Event Call) → List (Event Frame)
flown_of s es = flown s (set_up_writer s).state es

abbrev pub frames_of : Setting → List (Event Call) → List Frame
frames_of s es = sent (flown_of s es)

abbrev pub arrivals_of : Setting → List (Event Call) → List Arrival
arrivals_of s es = arrivals silence (flown_of s es)

abbrev pub reads_of : Setting → List ℕ → List (Event Call) → List Got
reads_of s held es = reads (set_up_reader s).state held (arrivals_of s es)

-- "Two fresh ends of one accepted setting; a list of calls of the writer; each frame kept, or gone": what is asked of all but the
-- number of frames gone. The held area is of the size asked for, with anything in it: no lane holds octets yet.
pub record Run (s : Setting) (held : List ℕ) (es : List (Event Call)) : Type 0 where
  pub writer : (set_up_writer s).outcome ≡ Ok tt
  pub reader : (set_up_reader s).outcome ≡ Ok tt
  pub calls : InOrder (set_up_writer s).state (λ (l : ℕ). []) es
  pub area : length held ≡ held_size
  pub link : all_pass s es ≡ true

-- "Between two kept frames of one channel and service fewer gone than 256^n", and with A3 "fewer are gone than counter values less one".
abbrev pub Near : Setting → List (Event Call) → Type 0
Near s es = (c : ℕ) → c < s.listed → few_gone (256 ^ (channel s c).octets - 1) false 0 (kept_on c (frames_of s es)) ≡ true

-- "What the reads hand out, taken from the unit area by the records, is in sending order and octet for octet the list of exactly those
-- units for which no frame of that channel and service is gone from the frame where the unit begins to the frame where it ends; and
-- nothing else"; and "the count and the span in the record are those of the frames written". For a number l that is no lane both are empty.
abbrev pub Exact : Setting → List ℕ → List (Event Call) → ℕ → Type 0
Exact s held es l = handed_out l (reads_of s held es) ≡ due l [] (frames_of s es)

-- "Then, lane by lane".
abbrev pub Demand : Type 0
Demand = (s : Setting) (held : List ℕ) (es : List (Event Call)) → Run s held es → Near s es → (l : ℕ) → Exact s held es l
