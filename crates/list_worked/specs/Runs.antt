-- What one frame of a listing prints and leaves, and what a listing carries from frame to frame.
use Rattle.std.specs.Prelude.{ℕ, ◌+◌, ◌*◌, ◌≤◌, ◌≡◌, cond, List, [], ◌++◌, length, replicate}
use Rattle.rules.specs.declared.Answer.{Answer}
use Rattle.rules.specs.declared.Reader.{Reader}
use Rattle.rules.specs.Tests.{◌=?◌}
use Rattle.rules.specs.Calls.{set_up_reader, Got}
use Rattle.rules.specs.Listing.{text, line, lines}
use Rattle.rules.specs.Worked.{worked, packet_lane}
use Rattle.listing_text.specs.Puts.{Put}
use Rattle.rules.specs.Areas.{held_size, records_size, units_size}

-- What is printed before line k.
unfoldable pub opening : ℕ → List ℕ
opening k = cond (k =? 0) (text "frame answer units missing\n") []

-- What is printed for frame k.
unfoldable pub printed : ℕ → Answer → List ℕ
printed k a = opening k ++ line k a

-- A frame's text, 98 octets at most, stands at the front of the area, and state and areas are what the read leaves.
pub record Listed (k : ℕ) (o : Got) (area : List ℕ) (a : Answer) (r : Reader) (h u c area' : List ℕ) (end : ℕ) : Type 0 where
  pub answer : a ≡ o.taken.answer
  pub state : r ≡ o.taken.state
  pub held : h ≡ o.held_area
  pub units : u ≡ o.unit_area
  pub records : c ≡ o.record_area
  pub text : Put (printed k a) area 0 area' end
  pub short : end ≤ 98

-- The lines of an input, as the rules' listing has them after its title, n at most.
unfoldable pub lines_of : ℕ → List ℕ → List ℕ
lines_of n input = lines n 0 (set_up_reader (worked packet_lane)).state (replicate held_size 0) (replicate units_size 0) (replicate records_size 0) input

-- What a listing carries once k whole frames were `seen` and their lines `said`: whatever follows them, the listing goes on
-- with line k, from this state and these areas.
pub record Reached (k : ℕ) (r : Reader) (h u c : List ℕ) : Type 0 where
  pub seen : List ℕ
  pub said : List ℕ
  pub whole : length seen ≡ 32 * k
  pub framed : r.setting.length ≡ 32
  pub goes : (n : ℕ) (rest : List ℕ) → lines_of (k + n) (seen ++ rest) ≡ said ++ lines n k r h u c rest
