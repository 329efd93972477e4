-- Parts of a request are cut as it says, and what a call's steps leave is what the request leaves.
use mathlib.Core.Path.{◌≡◌, sym, ap, ap₂, ◌∙◌}
use Prim.Native.Nat.{ℕ, ◌+◌, ◌-◌, ◌≤◌, min}
use native.Mathlib.Nat.{min-le_right}
use native.Mathlib.Omega.{arith}
use mathlib.Core.List.{List}
use lib.ListN.{length, take, drop, length-drop}
use Rattle.std.proofs.lemmas.List.{take_min}
use Rattle.rules.specs.declared.Reader.{Reader}
use Rattle.rules.specs.declared.Writer.{Writer}
use Rattle.rules.specs.declared.Taken.{Taken}
use Rattle.rules.specs.declared.Sender.{Sender}
use Rattle.rules.specs.declared.Looked.{Looked}
use borrow.Rule.Slice.PartMut.{put_mid}
use Rattle.rules.specs.Areas.{laid}
use Rattle.octets.proofs.Turns.{lent as back, part-long}
use Rattle.rules.specs.Calls.{Sent, write, Got, look}
use Rattle.rows.specs.Rows.{word, spelled}
use Rattle.rows.specs.States.{reader_in, writer_in}
use Rattle.obey.specs.Requests.{cut, behind, answered, sent_on, taken_on, asked, sent, written}
use Rattle.obey.specs.Requests.{sizes_in, read_in, whole, frame_in, read_on, Left, look_row, look_on}
use Rattle.obey.specs.declared.requests.Sizes.{Sizes}

-- ---- parts

pub cut_is : (s : List ℕ) (from n k : ℕ) → from ≤ length s → k ≡ min n (length s - from) → take (from + k - from) (drop from s) ≡ cut s from n
unfolding cut
cut_is s from n k h e =
    let a : from + k - from ≡ k = omega arith in
    ap (λ (m : ℕ). take m (drop from s)) (a ∙ e ∙ ap (min n) (sym (length-drop from s))) ∙ take_min n (drop from s)

-- ---- a write

pub asked_is : (q area batch insert ocf : List ℕ) (w : Writer) (o : Sent) (l n i k : ℕ) → l ≡ word q 2 → n ≡ word q 1 → batch ≡ cut q 336 n → i ≡ word q 3
    → insert ≡ cut q 64 i → k ≡ word q 4 → ocf ≡ cut q 320 k → o ≡ write w l batch insert ocf area → o ≡ asked q w area
unfolding asked
asked_is q area batch insert ocf w o l n i k e₁ e₂ e₃ e₄ e₅ e₆ e₇ e = cc

-- The frame area is the desk's last 4,200 octets; what is lent of it goes back to its place.
pub written_is : (q desk desk' area : List ℕ) (w : Writer) (t : Sender) (v n : ℕ) → length desk ≡ 6440 → w ≡ writer_in desk 1 → v ≡ word q 5 → n ≡ min v 4200
    → length area ≡ length (take (2240 + n - 2240) (drop 2240 desk))
    → ◌≡◌ {A = Sent} (record { sender = t; area = area }) (asked q w (take (2240 + n - 2240) (drop 2240 desk)))
    → desk' ≡ sent_on (put_mid 2240 (2240 + n - 2240) desk area) t → desk' ≡ written (sent q desk) desk
unfolding written sent
written_is q desk desk' area w t v n long own said least kept done p =
    let size : length area ≡ n = kept ∙ part-long desk 2240 n (omega (arith, min-le_right v 4200)) in
    let a : n ≡ min (word q 5) (length desk - 2240) = least ∙ ap₂ min said (ap (λ (m : ℕ). m - 2240) (sym long)) in
    let g : ◌≡◌ {A = Sent} (record { sender = t; area = area }) (sent q desk) =
    done ∙ ap₂ (asked q) own (cut_is desk 2240 (word q 5) n (omega arith) a) in
    p ∙ ap (λ (x : List ℕ). sent_on x t) (back desk 2240 n area size)
    ∙ ap (λ (s : Sent). sent_on (laid desk 2240 s.area) s.sender) g

-- ---- a read

pub sizes_fit : (q : List ℕ) (h u c : ℕ) (z : Sizes) → z ≡ sizes_in q h u c → (z.held ≤ h) × (z.units ≤ u) × (z.records ≤ c)
unfolding sizes_in
sizes_fit q h u c z e = rw e (min-le_right (word q 4) h, min-le_right (word q 2) u, min-le_right (word q 3) c)

pub read-on : (q f desk held units records desk' held' units' records' : List ℕ) (z : Sizes) (r : Reader) (t : Taken)
    → z ≡ sizes_in q (length held) (length units) (length records) → r ≡ reader_in desk 18 → f ≡ frame_in q desk
    → ◌≡◌ {A = Got} (record { taken = t; held_area = held'; unit_area = units'; record_area = records' })
    (whole z (read_in z r f held units records) held units records)
    → desk' ≡ taken_on desk t → Left (read_on q desk held units records) desk desk' held' units' records'
unfolding read_on
read-on q f desk held units records desk' held' units' records' z r t e here frame done p =
    let x : read_in z r f held units records ≡ read_in z (reader_in desk 18) (frame_in q desk) held units records =
    ap₂ (λ (y : Reader) (k : List ℕ). read_in z y k held units records) here frame in
    let g =
    done ∙ ap (λ (y : Got). whole z y held units records) x
    ∙ ap (λ (y : Sizes). whole y (read_in y (reader_in desk 18) (frame_in q desk) held units records) held units records) e in
    record {
      desk = p ∙ ap (λ (x : Got). taken_on desk x.taken) g;
      held = ap (λ (x : Got). x.held_area) g;
      units = ap (λ (x : Got). x.unit_area) g;
      records = ap (λ (x : Got). x.record_area) g;
    }

-- ---- a look

pub look-on : (q f desk desk' row : List ℕ) (r : Reader) (o : Looked) → r ≡ reader_in desk 18 → f ≡ behind q → o ≡ look r f → row ≡ look_row o
    → desk' ≡ laid desk 0 (spelled row) → desk' ≡ look_on q desk
unfolding look_on answered
look-on q f desk desk' row r o here frame done shown p = cc
