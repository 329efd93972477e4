-- Settings and states in rows. A state has 17 rows: the setting's first numbers, then each channel slot, then each lane slot.
use Rattle.std.specs.Prelude.{ℕ, zero, suc, ◌+◌, ◌*◌, ◌%◌, Bool, false, cond, List, [], ◌∷◌, ◌++◌, get_or, set, replicate}
use Rattle.rules.specs.declared.Kind.{Kind}
use Rattle.rules.specs.declared.Kind.TheVariants.{Packets, Access}
use Rattle.rules.specs.declared.Channel.{Channel}
use Rattle.rules.specs.declared.Lane.{Lane}
use Rattle.rules.specs.declared.Setting.{Setting}
use Rattle.rules.specs.declared.Expect.{Expect}
use Rattle.rules.specs.declared.Expects.{Expects}
use Rattle.rules.specs.declared.Slot.{Slot}
use Rattle.rules.specs.declared.Reader.{Reader}
use Rattle.rules.specs.declared.Writer.{Writer}
use Rattle.rows.specs.declared.Tail.{Tail}
use Rattle.rules.specs.Tests.{◌=?◌}
use Rattle.rules.specs.Octets.{flag}
use Rattle.rules.specs.Settings.{no_channel, no_lane, no_slot, expect_on}
use Rattle.rows.specs.Rows.{word, spelled}

-- ---- out of octets: i is the number with which a row begins

unfoldable pub channel_in : List ℕ → ℕ → Channel
channel_in xs i = record { vc = word xs i % 256; service = word xs (i + 1) % 256; octets = word xs (i + 2) % 256; ocf = word xs (i + 3) =? 1 }

-- 0 is packets.
abbrev pub kind_in : ℕ → Kind
kind_in n = cond (n =? 0) Packets Access

unfoldable pub lane_in : List ℕ → ℕ → Lane
lane_in xs i =
    record { channel = word xs i % 256; map = word xs (i + 1) % 256; kind = kind_in (word xs (i + 2)); longest = word xs (i + 3) % 65536; upid = word xs (i + 4) % 256 }

-- Eight slots: what f says in the first n of them, z in the others.
unfoldable pub slots : {A : Type 0} → A → (ℕ → A) → ℕ → List A
slots z f zero = replicate 8 z
slots z f (suc n) = set (slots z f n) n (f n)

unfoldable pub channels_in : List ℕ → ℕ → List Channel
channels_in xs k = slots no_channel (λ (i : ℕ). channel_in xs (8 * (k + i))) 8

-- Number 5 of each of eight rows: behind a channel's numbers its count, behind a lane's a writer's next frame number.
unfoldable pub counts_in : List ℕ → ℕ → List ℕ
counts_in xs k = slots 0 (λ (i : ℕ). word xs (8 * (k + i) + 5)) 8

-- Whether each count is expected.
unfoldable pub known_in : List ℕ → ℕ → List Bool
known_in xs k = slots false (λ (i : ℕ). word xs (8 * (k + i) + 4) =? 1) 8

unfoldable pub lanes_in : List ℕ → ℕ → List Lane
lanes_in xs k = slots no_lane (λ (i : ℕ). lane_in xs (8 * (k + i))) 8

-- What is kept of a lane, behind its numbers.
unfoldable pub slot_in : List ℕ → ℕ → Slot
slot_in xs i = record { held = word xs (i + 5) % 65536; span = word xs (i + 6) % 65536 }

unfoldable pub slots_in : List ℕ → ℕ → List Slot
slots_in xs k = slots no_slot (λ (i : ℕ). slot_in xs (8 * (k + i))) 8

-- The setting from row k on.
unfoldable pub setting_in : List ℕ → ℕ → Setting
setting_in xs k =
    record {
      length = word xs (8 * k);
      craft = word xs (8 * k + 1) % 65536;
      bit = word xs (8 * k + 2) % 256;
      insert = word xs (8 * k + 3);
      check = word xs (8 * k + 4) =? 1;
      listed = word xs (8 * k + 5);
      channels = channels_in xs (k + 1);
      numbered = word xs (8 * k + 6);
      lanes = lanes_in xs (k + 9);
    }

-- The reader's state from row k on.
unfoldable pub reader_in : List ℕ → ℕ → Reader
reader_in xs k = record { setting = setting_in xs k; expects = record { counts = counts_in xs (k + 1); known = known_in xs (k + 1) }; slots = slots_in xs (k + 9) }

-- The writer's state from row k on: counts stand for expected counts, next frame numbers for what is held, whole, and a span says nothing.
unfoldable pub writer_in : List ℕ → ℕ → Writer
writer_in xs k = record { setting = setting_in xs k; counts = counts_in xs (k + 1); next = counts_in xs (k + 9) }

-- ---- into octets

unfoldable pub front_row : Setting → List ℕ
front_row s = s.length ∷ s.craft ∷ s.bit ∷ s.insert ∷ flag s.check ∷ s.listed ∷ s.numbered ∷ 0 ∷ []

unfoldable pub channel_row : Channel → Expect → List ℕ
channel_row c x = c.vc ∷ c.service ∷ c.octets ∷ flag c.ocf ∷ flag x.known ∷ x.count ∷ 0 ∷ 0 ∷ []

abbrev pub kind_number : Kind → ℕ
kind_number Packets = 0
kind_number Access = 1

unfoldable pub lane_row : Lane → Tail → List ℕ
lane_row l x = l.channel ∷ l.map ∷ kind_number l.kind ∷ l.longest ∷ l.upid ∷ x.first ∷ x.second ∷ 0 ∷ []

-- The first n of the rows that f says, as octets.
unfoldable pub rows : (ℕ → List ℕ) → ℕ → List ℕ
rows f zero = []
rows f (suc n) = rows f n ++ spelled (f n)

unfoldable pub channel_rows : List Channel → Expects → List ℕ
channel_rows cs xs = rows (λ (i : ℕ). channel_row (get_or cs i no_channel) (expect_on xs i)) 8

-- A tail of zeros.
abbrev pub no_tail : Tail
no_tail = record { first = 0; second = 0 }

unfoldable pub lane_rows : List Lane → List Tail → List ℕ
lane_rows ls ys = rows (λ (i : ℕ). lane_row (get_or ls i no_lane) (get_or ys i no_tail)) 8

-- A state as octets.
unfoldable pub state_octets : Setting → Expects → List Tail → List ℕ
state_octets s xs ys = spelled (front_row s) ++ channel_rows s.channels xs ++ lane_rows s.lanes ys

-- What is kept of a lane, behind its numbers.
unfoldable pub tail_of : Slot → Tail
tail_of x = record { first = x.held; second = x.span }

unfoldable pub tails_of : List Slot → List Tail
tails_of xs = slots no_tail (λ (i : ℕ). tail_of (get_or xs i no_slot)) 8

unfoldable pub reader_octets : Reader → List ℕ
reader_octets r = state_octets r.setting r.expects (tails_of r.slots)

-- Counts that are said to be expected by nobody.
unfoldable pub expects_of : List ℕ → Expects
expects_of ns = record { counts = ns; known = replicate 8 false }

-- Next frame numbers, behind the lanes' numbers: a writer's lane has no span.
unfoldable pub tails_of_next : List ℕ → List Tail
tails_of_next ns = slots no_tail (λ (i : ℕ). record { first = get_or ns i 0; second = 0 }) 8

unfoldable pub writer_octets : Writer → List ℕ
writer_octets w = state_octets w.setting (expects_of w.counts) (tails_of_next w.next)
