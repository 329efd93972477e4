-- What the next batch of a packet file is, and what is wrong with the packet at the front of what is left of it.
use Rattle.std.specs.Prelude.{ℕ, ◌-◌, cond, ◌&&◌, Option, Some, None, List, [], ◌∷◌, length}
use Rattle.rules.specs.declared.Measure.{Measure}
use Rattle.rules.specs.Tests.{◌≤?◌, ◌<?◌, ◌=?◌}
use Rattle.rules.specs.Areas.{joined, batch_size}
use Rattle.rules.specs.Packets.{measure, packets}
use Rattle.streams.specs.declared.file_batches.Wrong.{Wrong}
use Rattle.streams.specs.declared.file_batches.Wrong.TheVariants.{NoPacket, Idle, Long, Cut}

-- Of packets, those from the first on that have no more than `room` octets together and of which none is above the longest.
unfoldable pub fitting : ℕ → ℕ → List (List ℕ) → List (List ℕ)
fitting longest room [] = []
fitting longest room (p ∷ ps) = cond (length p ≤? longest && length p ≤? room) (p ∷ fitting longest (room - length p) ps) []

-- "A packet batch is 1 to 32,768 octets of whole Space Packets back to back, none idle, none above the lane's longest"; with A5 of document 02 it
-- "may mix both families, none idle": how many octets from the first on are such a batch, with as many packets as fit. 0 where there is none.
unfoldable pub gathered : ℕ → List ℕ → ℕ
gathered longest xs = length (joined (fitting longest batch_size (packets xs)))

-- What is wrong with a packet of which n octets are there, up to the file's end. One that is too long is so whether or not it is cut.
unfoldable pub wrong_of : ℕ → Measure → ℕ → Option Wrong
wrong_of longest (Measure.Lacks k) n = cond (n =? 0) None (Some Cut)
wrong_of longest (Measure.Packet f size) n = cond (longest <? size) (Some (Long size)) (cond (n <? size) (Some Cut) None)
wrong_of longest (Measure.Idle size) n = Some Idle
wrong_of longest Measure.Unreadable n = Some NoPacket

-- What is wrong with the packet that begins with the first of these octets, the last of which ends the file. Where there is none, nothing.
unfoldable pub wrong_at : ℕ → List ℕ → Option Wrong
wrong_at longest xs = wrong_of longest (measure xs) (length xs)
