-- Handing out, one after another: what two steps leave is what both at once would, and there is room for the second once there is for both.
use mathlib.Core.Path.{◌≡◌, refl, sym, ap, ap₂, ◌∙◌}
use mathlib.Core.List.{List, [], ◌∷◌, ◌++◌, append_assoc, append-nil}
use Prim.Native.Nat.{ℕ, ◌+◌, ◌*◌, ◌≤◌}
use native.Mathlib.Nat.{zero-add, add-zero, add_assoc}
use native.Mathlib.Omega.{arith}
use lib.ListN.{length, take, drop, length-append}
use lib.Seq.{length-take-le}
use Rattle.rules.specs.declared.Info.{Info}
use Rattle.rules.specs.Octets.{be}
use Rattle.rules.specs.Areas.{laid, joined, record_size}
use Rattle.rules.specs.Settings.{no_slot}
use Rattle.rules.specs.Reading.{DataUnit, no_unit, unit_from, octets_of, Made, nothing, hands, idles, both, record_of, records_from}
use Rattle.rules.proofs.Octets.{length-be}
use Rattle.rules.proofs.Areas.{laid_nil, laid-laid, length-laid}
use Rattle.rules.proofs.Lanes.{octets_append, octets_both}
use Rattle.lanes.specs.declared.units.Tally.{Tally}
use Rattle.lanes.specs.declared.units.Stand.{Stand}
use Rattle.lanes.specs.Hands.{Room, Handed, Begun, Ready, Went}

-- ---- records

length_record : (i : Info) (start size span : ℕ) → length (record_of i start size span) ≡ record_size
unfolding record_of be
length_record i start size span = refl

length_records : (i : Info) (start : ℕ) (us : List DataUnit) → length (records_from i start us) ≡ record_size * length us
unfolding records_from
length_records i start [] = refl
length_records i start (u ∷ us) =
    let n = length u.octets in
    length-append (record_of i start n u.span) (records_from i (start + n) us)
    ∙ ap₂ ◌+◌ (length_record i start n u.span) (length_records i (start + n) us) ∙ omega arith

records_append : (i : Info) (start : ℕ) (es bs : List DataUnit)
    → records_from i start (es ++ bs) ≡ records_from i start es ++ records_from i (start + length (joined (octets_of es))) bs
unfolding records_from joined
records_append i start [] bs = ap (λ (n : ℕ). records_from i n bs) (sym (add-zero start))
records_append i start (e ∷ es) bs =
    let x = e.octets in
    let xs = joined (octets_of es) in
    let first = record_of i start (length x) e.span in
    let n : start + length x + length xs ≡ start + length (x ++ xs) = add_assoc start (length x) (length xs) ∙ ap (λ (k : ℕ). start + k)
    (sym (length-append x xs)) in
    ap (λ (y : List ℕ). first ++ y)
    (records_append i (start + length x) es bs ∙ ap (λ (k : ℕ). records_from i (start + length x) es ++ records_from i k bs) n)
    ∙ sym (append_assoc first (records_from i (start + length x) es) (records_from i (start + length (x ++ xs)) bs))

-- So many octets are laid from a place on: a number that is laid where they end goes with them.
number-laid : (area : List ℕ) (from : ℕ) (xs : List ℕ) (n k v : ℕ) {a b : List ℕ} → from + n ≤ length area → (a ≡ laid area from xs) × (length xs ≡ n)
    → b ≡ laid a (from + n) (be k v) → (b ≡ laid area from (xs ++ be k v)) × (length (xs ++ be k v) ≡ n + k)
number-laid area from xs n k v room (e, long) f = (
  f ∙ ap₂ (λ (x : List ℕ) (j : ℕ). laid x (from + j) (be k v)) e (sym long) ∙ laid-laid area from xs (omega arith) (be k v),
  length-append xs (be k v) ∙ ap₂ ◌+◌ long (length-be k v),
)

-- Four octets and four numbers, laid one after another, are a record.
pub record_laid : (area : List ℕ) (from : ℕ) (i : Info) (start size span : ℕ) {a b c d e : List ℕ} → from + record_size ≤ length area
    → a ≡ laid area from (i.lane ∷ i.vc ∷ i.map ∷ i.service ∷ []) → b ≡ laid a (from + 4) (be 4 start) → c ≡ laid b (from + 8) (be 4 size)
    → d ≡ laid c (from + 12) (be 8 i.count) → e ≡ laid d (from + 20) (be 4 span) → e ≡ laid area from (record_of i start size span)
unfolding record_of
record_laid area from i start size span room whose s n k p =
    let a = number-laid area from _ 4 4 start (omega arith) (whose, refl) s in
    let b = number-laid area from _ 8 4 size (omega arith) a n in
    let c = number-laid area from _ 12 8 i.count (omega arith) b k in
    (number-laid area from _ 20 4 span (omega arith) c p).0

-- ---- one after the other, of what is made

pub made_same : {us vs : List DataUnit} {h : DataUnit} {i j f g d e : ℕ} → us ≡ vs → i ≡ j → f ≡ g → d ≡ e
    → ◌≡◌ {A = Made} (record { units = us; held = h; idle = i; fill = f; dropped = d }) (record { units = vs; held = h; idle = j; fill = g; dropped = e })
made_same a b c d = rw (a, b, c, d)

pub both-nothing : (m : Made) → m ≡ both nothing m
unfolding both
both-nothing m = made_same refl (sym (zero-add _)) (sym (zero-add _)) (sym (zero-add _))

both-both : (a b c : Made) → both a (both b c) ≡ both (both a b) c
unfolding both
both-both a b c = made_same (sym (append_assoc a.units b.units c.units)) (omega arith) (omega arith) (omega arith)

pub hands-both : (x : DataUnit) (m : Made) → hands x m ≡ both (hands x nothing) m
unfolding both
hands-both x m = made_same refl (sym (zero-add _)) (sym (zero-add _)) (sym (zero-add _))

pub idles-none : (m : Made) → m ≡ idles 0 m
idles-none m = made_same refl (sym (zero-add _)) refl refl

pub idles-idles : (a b : ℕ) (m : Made) → idles a (idles b m) ≡ idles (a + b) m
idles-idles a b m = made_same refl (omega arith) refl refl

pub idles-both : (n : ℕ) (m : Made) → idles n m ≡ both (idles n nothing) m
unfolding both
idles-both n m = made_same refl (omega arith) (sym (zero-add _)) (sym (zero-add _))

-- ---- one after the other, in the areas

module _ {t : Tally} {u r : List ℕ} (a b : Made) (room : Room t u r (both a b)) where
  pub room-first : Room t u r a
  unfolding both
  room-first =
      let j = octets_both a.units b.units in
      let n = length-append a.units b.units in
      record {
        octets = omega arith;
        records = omega arith;
        idle = omega arith;
        fill = omega arith;
        dropped = omega arith;
      }

  module _ {i : Info} {t₁ : Tally} {u₁ r₁ : List ℕ} (first : Handed i t u r a t₁ u₁ r₁) where
    -- The areas keep their lengths.
    pub units-stay : length u₁ ≡ length u
    units-stay = ap length first.unit_area ∙ length-laid u t.octets (joined (octets_of a.units)) room-first.octets

    pub records-stay : length r₁ ≡ length r
    records-stay =
        let k = length_records i t.octets a.units in
        ap length first.record_area ∙ length-laid r (record_size * t.count) (records_from i t.octets a.units) (omega (arith, room-first.records))

    -- The first leaves room for the second.
    pub room-second : Room t₁ u₁ r₁ b
    unfolding both
    room-second =
        let j = octets_both a.units b.units in
        let n = length-append a.units b.units in
        record {
          octets = omega (arith, units-stay);
          records = omega (arith, records-stay);
          idle = omega arith;
          fill = omega arith;
          dropped = omega arith;
        }

    pub handed-both : {t₂ : Tally} {u₂ r₂ : List ℕ} → Handed i t₁ u₁ r₁ b t₂ u₂ r₂ → Handed i t u r (both a b) t₂ u₂ r₂
    unfolding both
    handed-both second =
        let j = octets_both a.units b.units in
        let n = length-append a.units b.units in
        let k = length_records i t.octets a.units in
        let at : record_size * t₁.count ≡ record_size * t.count + length (records_from i t.octets a.units) = omega arith in
        record {
          unit_area =
              second.unit_area ∙ ap₂ (λ (x : List ℕ) (n : ℕ). laid x n (joined (octets_of b.units))) first.unit_area first.octets
              ∙ laid-laid u t.octets (joined (octets_of a.units)) room-first.octets (joined (octets_of b.units))
              ∙ ap (laid u t.octets) (sym (octets_append a.units b.units));
          record_area =
              second.record_area ∙ ap₂ (λ (x : List ℕ) (n : ℕ). laid x n (records_from i t₁.octets b.units)) first.record_area at
              ∙ laid-laid r (record_size * t.count) (records_from i t.octets a.units) (omega (arith, room-first.records))
              (records_from i t₁.octets b.units)
              ∙ ap (λ (n : ℕ). laid r (record_size * t.count) (records_from i t.octets a.units ++ records_from i n b.units)) first.octets
              ∙ ap (laid r (record_size * t.count)) (sym (records_append i t.octets a.units b.units));
          count = omega arith;
          octets = omega arith;
          idle = omega arith;
          fill = omega arith;
          dropped = omega arith;
        }

    pub went-after : {d : List ℕ} {s : Stand} {u₂ r₂ d₂ : List ℕ} → Went i t₁ u₁ r₁ d b s u₂ r₂ d₂ → Went i t u r d (both a b) s u₂ r₂ d₂
    unfolding both
    went-after second = record { handed = handed-both second.handed; part = second.part; slot = second.slot }

-- ---- a whole of which something is handed out

pub begun-none : {i : Info} {t : Tally} {u r : List ℕ} (m : Made) → Begun i t u r m m t u r
unfolding joined records_from
begun-none {i} {t} {u} {r} m =
    record {
      sofar = nothing;
      split = both-nothing m;
      handed =
          record {
            unit_area = sym (laid_nil u t.octets);
            record_area = sym (laid_nil r (record_size * t.count));
            count = omega arith;
            octets = omega arith;
            idle = omega arith;
            fill = omega arith;
            dropped = omega arith;
          };
    }

module _ {i : Info} {t : Tally} {u r : List ℕ} {whole rest : Made} {t₁ : Tally} {u₁ r₁ : List ℕ} (room : Room t u r whole)
    (begun : Begun i t u r whole rest t₁ u₁ r₁) where
  all_room : Room t u r (both begun.sofar rest)
  all_room = rw begun.split at room

  pub begun-units : length u₁ ≡ length u
  begun-units = units-stay begun.sofar rest all_room begun.handed

  pub begun-records : length r₁ ≡ length r
  begun-records = records-stay begun.sofar rest all_room begun.handed

  -- There is room for the rest.
  pub begun-room : Room t₁ u₁ r₁ rest
  begun-room = room-second begun.sofar rest all_room begun.handed

  -- Some of the rest is handed out too.
  pub begun-on : {a rest' : Made} {t₂ : Tally} {u₂ r₂ : List ℕ} → rest ≡ both a rest' → Handed i t₁ u₁ r₁ a t₂ u₂ r₂ → Begun i t u r whole rest' t₂ u₂ r₂
  begun-on {a} {rest'} e next =
      let split : whole ≡ both (both begun.sofar a) rest' = begun.split ∙ ap (both begun.sofar) e ∙ both-both begun.sofar a rest' in
      record {
        sofar = both begun.sofar a;
        split = split;
        handed = handed-both begun.sofar a
            (room-first (both begun.sofar a) rest' (rw split at room)) begun.handed next;
      }

  -- All of the rest is handed out, or held.
  pub begun-went : {d : List ℕ} {s : Stand} {u₂ r₂ d₂ : List ℕ} → Went i t₁ u₁ r₁ d rest s u₂ r₂ d₂ → Went i t u r d whole s u₂ r₂ d₂
  begun-went last = rw begun.split (went-after begun.sofar rest all_room begun.handed last)

-- The rest, said otherwise.
pub begun_is : {i : Info} {t : Tally} {u r : List ℕ} {whole rest rest' : Made} {t₁ : Tally} {u₁ r₁ : List ℕ} → rest ≡ rest'
    → Begun i t u r whole rest t₁ u₁ r₁ → Begun i t u r whole rest' t₁ u₁ r₁
begun_is e b = record { sofar = b.sofar; split = b.split ∙ ap (both b.sofar) e; handed = b.handed }

-- ---- single steps

-- No unit: it is only counted.
pub only_counted : {i : Info} {t : Tally} {u r : List ℕ} {m : Made} {t' : Tally} → m.units ≡ [] → t'.count ≡ t.count → t'.octets ≡ t.octets
    → t'.idle ≡ t.idle + m.idle → t'.fill ≡ t.fill + m.fill → t'.dropped ≡ t.dropped + m.dropped → Handed i t u r m t' u r
unfolding joined records_from
only_counted {i} {t} {u} {r} {m} e count octets idle fill dropped =
    let n : length m.units ≡ 0 = ap length e in
    let j : length (joined (octets_of m.units)) ≡ 0 = ap (λ (us : List DataUnit). length (joined (octets_of us))) e in
    record {
      unit_area = sym (ap (λ (us : List DataUnit). laid u t.octets (joined (octets_of us))) e ∙ laid_nil u t.octets);
      record_area = sym (ap (λ (us : List DataUnit). laid r (record_size * t.count) (records_from i t.octets us)) e ∙ laid_nil r (record_size * t.count));
      count = omega arith;
      octets = omega arith;
      idle = idle;
      fill = fill;
      dropped = dropped;
    }

-- One unit, with its record.
pub one-handed : {i : Info} {t : Tally} {u r : List ℕ} {x : DataUnit} {t' : Tally} {u' r' : List ℕ} → u' ≡ laid u t.octets x.octets
    → r' ≡ laid r (record_size * t.count) (record_of i t.octets (length x.octets) x.span) → t'.count ≡ t.count + 1
    → t'.octets ≡ t.octets + length x.octets → t'.idle ≡ t.idle → t'.fill ≡ t.fill → t'.dropped ≡ t.dropped
    → Handed i t u r (hands x nothing) t' u' r'
unfolding joined records_from
one-handed {i} {t} {u} {r} {x} a b count octets idle fill dropped =
    let n : length (x.octets ++ []) ≡ length x.octets = ap length (append-nil x.octets) in
    record {
      unit_area = a ∙ ap (laid u t.octets) (sym (append-nil x.octets));
      record_area = b ∙ ap (laid r (record_size * t.count)) (sym (append-nil (record_of i t.octets (length x.octets) x.span)));
      count = omega arith;
      octets = omega arith;
      idle = omega arith;
      fill = omega arith;
      dropped = omega arith;
    }

-- There is room for a unit of two parts.
pub two_fit : {t : Tally} {u r : List ℕ} (x y : List ℕ) (span : ℕ) → Room t u r (hands (unit_from (record { octets = x; span = span }) y) nothing)
    → t.octets + length x + length y ≤ length u
unfolding joined
two_fit x y span room =
    let n : length (x ++ y ++ []) ≡ length x + length y = ap length (append-nil (x ++ y)) ∙ length-append x y in
    omega arith

-- Nothing is held: the lane's part stays, and its slot is one of zeros.
pub part_stays : {i : Info} {t : Tally} {u r d : List ℕ} {m : Made} {t' : Tally} {u' r' : List ℕ} → m.held ≡ no_unit → Handed i t u r m t' u' r'
    → Went i t u r d m (record { tally = t'; slot = no_slot }) u' r' d
part_stays {d = d} e h =
    record {
      handed = h;
      part = sym (ap (λ (x : DataUnit). laid d 0 x.octets) e ∙ laid_nil d 0);
      slot = sym (ap (λ (x : DataUnit). record { held = length x.octets; span = x.span }) e);
    }

-- ---- held octets and those that follow them

module _ {s : Stand} {u r d x : List ℕ} {m : Made} (ready : Ready s u r d x m) where
  abbrev h : ℕ
  h = s.slot.held

  pub held-length : length (take h d) ≡ h
  held-length = length-take-le h d ready.inside

  pub follow-length : length (take h d ++ x) ≡ h + length x
  follow-length = length-append (take h d) x ∙ ap (λ (n : ℕ). n + length x) held-length

  pub follow-laid : laid d h x ≡ laid d 0 (take h d ++ x)
  unfolding laid
  follow-laid = ap (λ (n : ℕ). take h d ++ x ++ drop n d) (sym (zero-add _ ∙ follow-length))
