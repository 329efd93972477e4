-- Every frame that the write rule makes is refused by nothing under the same setting, and its fields read back.
use mathlib.Core.Path.{◌≡◌, refl, sym, ap, ◌∙◌, subst}
use Prim.Native.Nat.{ℕ, ◌+◌, ◌-◌, ◌*◌, ◌^◌, ◌≤◌, ◌<◌}
use native.Mathlib.Omega.{arith}
use mathlib.Core.Bool.{Bool, true, false, cond, not, ◌||◌, and-false, or-true}
use mathlib.Core.List.{List, [], ◌∷◌, ◌++◌, append_assoc}
use lib.ListN.{length, get_or, take, drop, replicate, length-append, length-take, length-replicate}
use lib.Seq.{take_at, drop_at, drop-drop}
use borrow.Author.Tests.{eq-eqb, ne_eqb, ltb-true}
use Rattle.rules.specs.declared.Kind.{Kind}
use Rattle.rules.specs.declared.Kind.TheVariants.{Packets, Access}
use Rattle.rules.specs.declared.Channel.{Channel}
use Rattle.rules.specs.declared.Lane.{Lane}
use Rattle.rules.specs.declared.Setting.{Setting}
use Rattle.rules.specs.declared.Writer.{Writer}
use Rattle.std.specs.Prelude.{Ok, Option, Some, None}
use Rattle.rules.specs.declared.Verdict.TheVariants.{Counted, Read}
use Rattle.rules.specs.Tests.{◌<?◌, ◌=?◌, ◌≠?◌, given}
use Rattle.rules.specs.Octets.{be, num, Field, field, widths, packed, bits, flag, check_of}
use Rattle.rules.specs.Areas.{laid}
use Rattle.rules.specs.Settings.{lane, channel_of, count, number, ocf_octets, check_octets, field_at, zone_at, zone_for, ocf_at, check_at, zone}
use Rattle.rules.specs.Frames.{header, primary, data_header, body, checked, version, craft, source_bit, vc, map, end_of_header, length_field, bypass, command, spare, ocf_flag, count_length, count_in, insert_in, data_field, rule_in, upid_in, pointer_in, zone_in, ocf_in, check_holds, pointer_to}
use Rattle.rules.specs.Writing.{piece, fill, zone_of, rule_of, offset_of, inside, pointer_of, frame_of}
use Rattle.rules.specs.Refusals.{channel_at, lane_at, rule_fits, data_wrong, refusals_at, refusals, on_channel, passed, judged, judge}
use Rattle.rules.specs.Calls.{write_refusals, written, write}
use Rattle.rules.proofs.Areas.{laid-front, laid-behind}
use Rattle.rules.proofs.Octets.{flag_small, length-be, num-be-below, Fit, bits_back, check_below}
use Rattle.rules.specs.Valid.{Good, GoodChannel, GoodLane}
use Rattle.rules.proofs.Valid.{good_channel_of}
use Rattle.rules.proofs.Judged.{Clear, none-given}
use Rattle.rules.proofs.Calls.{Accepted, none-refused, write-answered, accepted}

-- ---- the parts of a frame, one after another

-- What follows the first seven octets.
after : ℕ → ℕ → List ℕ → List ℕ → List ℕ → List ℕ → List ℕ → List ℕ
after n k insert head z ocf ck = be n k ++ (insert ++ (head ++ (z ++ (ocf ++ ck))))

regroup : (a b c d e f g : List ℕ) → (((((a ++ b) ++ c) ++ d) ++ e) ++ f) ++ g ≡ a ++ (b ++ (c ++ (d ++ (e ++ (f ++ g)))))
regroup a b c d e f g = simp append_assoc

module _ (n k : ℕ) (insert head z ocf ck : List ℕ) where
  after-count : take n (after n k insert head z ocf ck) ≡ be n k
  unfolding after
  after-count = take_at (be n k) _ n (length-be n k)

  after-insert : drop n (after n k insert head z ocf ck) ≡ insert ++ (head ++ (z ++ (ocf ++ ck)))
  unfolding after
  after-insert = drop_at (be n k) _ n (length-be n k)

  after-data : drop (n + length insert) (after n k insert head z ocf ck) ≡ head ++ (z ++ (ocf ++ ck))
  after-data =
      sym (drop-drop (length insert) n (after n k insert head z ocf ck)) ∙ ap (drop (length insert)) after-insert
      ∙ drop_at insert _ (length insert) refl

  after-length : length (after n k insert head z ocf ck) ≡ n + (length insert + (length head + (length z + (length ocf + length ck))))
  unfolding after
  after-length = simp (length-append, length-be)

-- ---- lengths

length-data_header : (r u p : ℕ) → length (data_header r u p) ≡ 3
unfolding data_header
length-data_header r u p = length-be 3 _

length_check : (s : Setting) (xs : List ℕ) → length (cond s.check (be 2 (check_of xs)) []) ≡ check_octets s
length_check s xs = go s.check
  where
    go : (t : Bool) → length (cond t (be 2 (check_of xs)) []) ≡ cond t 2 0
    go true = length-be 2 (check_of xs)
    go false = refl

-- Zones are full.
pub length-zone_of : (k : Kind) (z : ℕ) (b : List ℕ) (i : ℕ) → length (zone_of k z b i) ≡ z
unfolding zone_of
length-zone_of k z b i =
    let a = length-append (piece z b i) (replicate (z - length (piece z b i)) (fill k)) in
    let c = length-replicate (z - length (piece z b i)) (fill k) in
    let d = length-take z (drop (i * z) b) in
    omega (arith, a, c, d)

-- ---- the data header's fields

module _ (r u p : ℕ) (rest : List ℕ) (hr : r < 8) (hu : u < 32) (hp : p < 65536) where
  fields : List Field
  fields = field 3 r ∷ field 5 u ∷ field 16 p ∷ []

  fit : Fit fields
  unfolding fields
  fit = (hr, (hu, (hp, tt)))

  data_header-rule : bits 3 0 3 (data_header r u p ++ rest) ≡ r
  unfolding data_header fields widths
  data_header-rule = bits_back 3 fields 0 rest (omega arith) fit refl

  data_header-upid : bits 3 3 5 (data_header r u p ++ rest) ≡ u
  unfolding data_header fields widths
  data_header-upid = bits_back 3 fields 1 rest (omega arith) fit refl

  data_header-pointer : bits 3 8 16 (data_header r u p ++ rest) ≡ p
  unfolding data_header fields widths
  data_header-pointer = bits_back 3 fields 2 rest (omega arith) fit refl

-- ---- what the reader makes of a frame of lane l: nothing refuses it, and count k, insert zone, rule, pointer, zone and OCF read back

pub record ReadBack (s : Setting) (l k : ℕ) (ins oc z : List ℕ) (r p : ℕ) (f : List ℕ) : Type 0 where
  pub full : length f ≡ s.length
  pub accepted : given (refusals s f) ≡ 0
  pub read : judge s f ≡ Read l
  pub count : count_in (channel_of s l) f ≡ k
  pub insert : insert_in s (channel_of s l) f ≡ ins
  pub rule : rule_in s (channel_of s l) f ≡ r
  pub upid : upid_in s (channel_of s l) f ≡ (lane s l).upid
  pub pointer : pointer_in s (channel_of s l) f ≡ p
  pub octets : zone_in s (channel_of s l) f ≡ z
  pub ocf : ocf_in s (channel_of s l) f ≡ oc

-- ---- a frame of lane l

module _ (s : Setting) (g : Good s) (l : ℕ) (lh : l < s.numbered) (k : ℕ) (kb : k < 256 ^ (channel_of s l).octets)
    (insert ocf z : List ℕ) (r p : ℕ) (hi : length insert ≡ s.insert) (ho : length ocf ≡ ocf_octets (channel_of s l))
    (hz : length z ≡ zone s (channel_of s l)) (hr : r < 8) (hf : rule_fits (lane s l).kind r ≡ true) (hp : p < 65536)
    (hq : (p <? zone s (channel_of s l) || p =? 0xFFFF) ≡ true) where
  abbrev c : Channel
  c = channel_of s l

  abbrev a : Lane
  a = lane s l

  unfoldable pub whole : List ℕ
  whole = checked s (body s c a k insert r p z ocf)

  ck : List ℕ
  ck = cond s.check (be 2 (check_of (body s c a k insert r p z ocf))) []

  tail : List ℕ
  tail = after c.octets k insert (data_header r a.upid p) z ocf ck

  gl : GoodLane s l
  gl = g.lanes l lh

  gc : GoodChannel s a.channel
  gc = good_channel_of g l lh

  is-form : whole ≡ be 7 (packed (header s c a)) ++ tail
  unfolding whole checked ck tail after body primary
  is-form = regroup (be 7 (packed (header s c a))) (be c.octets k) insert (data_header r a.upid p) z ocf _

  pub is-length : length whole ≡ s.length
  unfolding tail ck zone
  is-length =
      let t = after-length c.octets k insert (data_header r a.upid p) z ocf ck in
      let q = length-data_header r a.upid p in
      let e = length_check s (body s c a k insert r p z ocf) in
      ap length is-form ∙ length-append (be 7 (packed (header s c a))) tail ∙ omega (arith, t, q, e, gc.room, length-be 7 (packed (header s c a)))

  -- ---- the primary header

  header-fit : Fit (header s c a)
  unfolding header
  header-fit = (
    omega arith,
    (
      omega (arith, g.craft),
      (
        omega (arith, g.bit),
        (
          omega (arith, gc.vc),
          (
            omega (arith, gl.map),
            (
              omega arith,
              (
                omega (arith, g.high),
                (
                  omega (arith, gc.service),
                  (omega arith, (omega arith, (omega (arith, flag_small c.ocf), (omega (arith, gc.seven), tt)))),
                ),
              ),
            ),
          ),
        ),
      ),
    ),
  )

  header-field : (i : ℕ) → i < 12
      → bits 7 (widths (take i (header s c a))) (get_or (header s c a) i (field 0 0)).width whole ≡ (get_or (header s c a) i (field 0 0)).value
  unfolding header widths
  header-field i h = rw is-form (bits_back 7 (header s c a) i tail h header-fit refl)

  pub is-version : version whole ≡ 0b1100
  unfolding header widths
  is-version = header-field 0 (omega arith)

  pub is-craft : craft whole ≡ s.craft
  unfolding header widths
  is-craft = header-field 1 (omega arith)

  pub is-bit : source_bit whole ≡ s.bit
  unfolding header widths
  is-bit = header-field 2 (omega arith)

  pub is-vc : vc whole ≡ c.vc
  unfolding header widths
  is-vc = header-field 3 (omega arith)

  pub is-map : map whole ≡ a.map
  unfolding header widths
  is-map = header-field 4 (omega arith)

  pub is-ending : end_of_header whole ≡ 0
  unfolding header widths
  is-ending = header-field 5 (omega arith)

  pub is-size : length_field whole ≡ s.length - 1
  unfolding header widths
  is-size = header-field 6 (omega arith)

  pub is-bypass : bypass whole ≡ c.service
  unfolding header widths
  is-bypass = header-field 7 (omega arith)

  pub is-command : command whole ≡ 0
  unfolding header widths
  is-command = header-field 8 (omega arith)

  pub is-spare : spare whole ≡ 0b00
  unfolding header widths
  is-spare = header-field 9 (omega arith)

  pub is-ocf_flag : ocf_flag whole ≡ flag c.ocf
  unfolding header widths
  is-ocf_flag = header-field 10 (omega arith)

  pub is-count_length : count_length whole ≡ c.octets
  unfolding header widths
  is-count_length = header-field 11 (omega arith)

  -- ---- what follows it

  is-tail : drop 7 whole ≡ tail
  is-tail = ap (drop 7) is-form ∙ drop_at (be 7 (packed (header s c a))) tail 7 (length-be 7 (packed (header s c a)))

  pub is-count : count_in c whole ≡ k
  unfolding count_in tail
  is-count = ap (λ (xs : List ℕ). num (take c.octets xs)) is-tail ∙ ap num (after-count c.octets k insert (data_header r a.upid p) z ocf ck)
      ∙ num-be-below c.octets k kb

  pub is-insert : insert_in s c whole ≡ insert
  unfolding insert_in tail
  is-insert =
      ap (take s.insert) (sym (drop-drop c.octets 7 whole) ∙ ap (drop c.octets) is-tail ∙ after-insert c.octets k insert
      (data_header r a.upid p) z ocf ck)
      ∙ take_at insert _ s.insert hi

  is-data : data_field s c whole ≡ data_header r a.upid p ++ (z ++ (ocf ++ ck))
  unfolding tail
  is-data =
      let e : 7 + c.octets + s.insert ≡ 7 + (c.octets + length insert) = omega arith in
      ap (λ (i : ℕ). drop i whole) e ∙ sym (drop-drop (c.octets + length insert) 7 whole) ∙ ap (drop (c.octets + length insert)) is-tail
      ∙ after-data c.octets k insert (data_header r a.upid p) z ocf ck

  upid-small : a.upid < 32
  upid-small = omega (arith, gl.kind.upid)

  pub is-rule : rule_in s c whole ≡ r
  unfolding rule_in
  is-rule = ap (bits 3 0 3) is-data ∙ data_header-rule r a.upid p _ hr upid-small hp

  pub is-upid : upid_in s c whole ≡ a.upid
  unfolding upid_in
  is-upid = ap (bits 3 3 5) is-data ∙ data_header-upid r a.upid p _ hr upid-small hp

  pub is_pointer : pointer_in s c whole ≡ p
  unfolding pointer_in
  is_pointer = ap (bits 3 8 16) is-data ∙ data_header-pointer r a.upid p _ hr upid-small hp

  is-rest : drop (zone_at s c) whole ≡ z ++ (ocf ++ ck)
  is-rest =
      sym (drop-drop 3 (field_at s c) whole) ∙ ap (drop 3) is-data ∙ drop_at (data_header r a.upid p) _ 3 (length-data_header r a.upid p)

  pub is-zone : zone_in s c whole ≡ z
  unfolding zone_in zone
  is-zone =
      ap (λ (n : ℕ). take (zone_for s c n) (drop (zone_at s c) whole)) is-length ∙ ap (take (zone s c)) is-rest ∙ take_at z _ (zone s c) hz

  pub is-ocf : ocf_in s c whole ≡ ocf
  unfolding ocf_in zone
  is-ocf =
      ap (λ (n : ℕ). take (ocf_octets c) (drop (ocf_at s c n) whole)) is-length
      ∙ ap (take (ocf_octets c)) (sym (drop-drop (zone s c) (zone_at s c) whole) ∙ ap (drop (zone s c)) is-rest ∙ drop_at z _ (zone s c) hz)
      ∙ take_at ocf _ (ocf_octets c) ho

  -- ---- the frame check

  checks : (b : List ℕ) (t : Bool) → s.check ≡ t → length (b ++ cond s.check (be 2 (check_of b)) []) ≡ s.length
      → check_holds s (b ++ cond s.check (be 2 (check_of b)) []) ≡ true
  unfolding check_holds
  checks b true e h =
      let n : length b ≡ check_at (length (b ++ be 2 (check_of b))) = omega (arith, length-append b (be 2 (check_of b)), length-be 2 (check_of b)) in
      rw (
        e,
        take_at b (be 2 (check_of b)) (check_at (length (b ++ be 2 (check_of b)))) n,
        drop_at b (be 2 (check_of b))
            (check_at (length (b ++ be 2 (check_of b)))) n,
        num-be-below 2 (check_of b) (check_below b),
        eq-eqb (check_of b) (check_of b) refl,
      )
  checks b false e h = rw e

  pub is-checked : check_holds s whole ≡ true
  unfolding whole checked
  is-checked = checks (body s c a k insert r p z ocf) s.check refl is-length

  -- ---- none of the refusals applies

  same : (x y : ℕ) → x ≡ y → x ≠? y ≡ false
  same x y e = ap not (eq-eqb x y e)

  right : data_wrong s a.channel l whole ≡ false
  unfolding data_wrong zone
  right = rw (is-length, is-rule, is-upid, is_pointer, hf, hq, same a.upid a.upid refl)

  pub nothing-applies : Clear s whole (Some a.channel)
  nothing-applies =
      record {
        row₃ = same _ _ is-length;
        row₄ = ap not is-checked;
        row₅ = same _ _ is-version;
        row₆ = rw (same _ _ is-craft, same _ _ is-bit);
        row₇ = ne_eqb _ _ (λ e. let q : 0 ≡ 1 = sym is-ending ∙ e in omega arith);
        row₈ = rw (same _ _ is-size, same _ _ is-spare, is-command);
        row₉ = and-false (vc whole ≠? 63);
        row₁₀ = same _ _ is-count_length;
        row₁₁ = same _ _ is-ocf_flag;
        row₁₂ = rw (is-map, gl.found, is-command, right);
      }

  found : channel_at s (vc whole) (bypass whole) ≡ Some a.channel
  found = rw (is-vc, is-bypass) gc.found

  none-refuses : given (refusals s whole) ≡ 0
  unfolding refusals
  none-refuses = ap (λ (q : Option ℕ). given (refusals_at s whole q)) found ∙ none-given nothing-applies

  -- The reader's checks give the lane that the frame was written on.
  pub is_read : judge s whole ≡ Read l
  unfolding judge judged passed on_channel
  is_read =
      ap (judged s whole) none-refuses
      ∙ ap (passed s whole) found ∙ ap (λ (m : ℕ). on_channel whole a.channel (lane_at s a.channel m)) is-map
      ∙ ap (on_channel whole a.channel) gl.found ∙ ap (λ (x : ℕ). cond (x =? 1) (Counted a.channel) (Read l)) is-command

  pub back : ReadBack s l k insert ocf z r p whole
  back =
      record {
        full = is-length;
        accepted = none-refuses;
        read = is_read;
        count = is-count;
        insert = is-insert;
        rule = is-rule;
        upid = is-upid;
        pointer = is_pointer;
        octets = is-zone;
        ocf = is-ocf;
      }

-- ---- a frame of a batch

pub pointer_small : (z n : ℕ) → z ≤ 4096 → pointer_to (inside z n) < 65536
unfolding inside
pointer_small z n h = go (n <? z) refl
  where
    go : (t : Bool) → n <? z ≡ t → pointer_to (cond t (Some n) None) < 65536
    go true e = let q : n < z = ltb-true _ _ e in omega arith
    go false e = omega arith

pointer_fits : (z n : ℕ) → (pointer_to (inside z n) <? z || pointer_to (inside z n) =? 0xFFFF) ≡ true
unfolding inside
pointer_fits z n = go (n <? z) refl (0xFFFF <? z)
  where
    go : (t : Bool) → n <? z ≡ t → (u : Bool) → (pointer_to (cond t (Some n) None) <? z || pointer_to (cond t (Some n) None) =? 0xFFFF) ≡ true
    go true e u = rw e
    go false e u = or-true (0xFFFF <? z)

rule_small : (k : Kind) (i : ℕ) → rule_of k i < 8
unfolding rule_of
rule_small Packets i = omega arith
rule_small Access i = go (i =? 0)
  where
    go : (t : Bool) → cond t 0b001 0b010 < 8
    go true = omega arith
    go false = omega arith

rule-fits : (k : Kind) (i : ℕ) → rule_fits k (rule_of k i) ≡ true
unfolding rule_fits rule_of
rule-fits Packets i = refl
rule-fits Access i = go (i =? 0)
  where
    go : (t : Bool) → (cond t 0b001 0b010 =? 0b001 || cond t 0b001 0b010 =? 0b010) ≡ true
    go true = refl
    go false = refl

pub zone-small : (s : Setting) → Good s → (c : Channel) → zone s c ≤ 4096
unfolding zone
zone-small s g c = omega (arith, g.high)

-- Of frame i of a batch b.
abbrev pub FrameBack : Setting → ℕ → ℕ → List ℕ → List ℕ → List ℕ → ℕ → List ℕ → Type 0
FrameBack s l k b ins oc i f =
    ReadBack s l k ins oc (zone_of (lane s l).kind (zone s (channel_of s l)) b i) (rule_of (lane s l).kind i)
    (pointer_of (lane s l).kind (zone s (channel_of s l)) b i) f

pub read_back : (s : Setting) → Good s → (l : ℕ) → l < s.numbered → (k : ℕ) → k < 256 ^ (channel_of s l).octets → (ins oc : List ℕ)
    → length ins ≡ s.insert → length oc ≡ ocf_octets (channel_of s l) → (b : List ℕ) (i : ℕ)
    → FrameBack s l k b ins oc i (frame_of s l k b ins oc i)
unfolding frame_of pointer_of whole
read_back s g l lh k kb ins oc hi ho b i =
    let t : Kind = (lane s l).kind in
    let z : ℕ = zone s (channel_of s l) in
    let n : ℕ = offset_of t z b i in
    back s g l lh k kb ins oc (zone_of t z b i) (rule_of t i) (pointer_to (inside z n)) hi ho (length-zone_of t z b i) (rule_small t i) (rule-fits t i)
    (pointer_small z n (zone-small s g (channel_of s l))) (pointer_fits z n)

-- ---- the write call

-- An accepted write leaves in the first F octets a frame that nothing refuses under the same setting and whose fields read back;
-- later octets are as they were.
pub write_back : (w : Writer) (l : ℕ) (batch ins oc area : List ℕ) → (write w l batch ins oc area).sender.outcome ≡ Ok tt
    → FrameBack w.setting l (count w (lane w.setting l).channel) batch ins oc (number w l)
    (take w.setting.length (write w l batch ins oc area).area)
    × (drop w.setting.length (write w l batch ins oc area).area ≡ drop w.setting.length area)
unfolding write written
write_back w l batch ins oc area e =
    let z : given (write_refusals w l batch ins oc area) ≡ 0 = accepted w l batch ins oc area e in
    let a : Accepted w l batch ins oc area = none-refused w l batch ins oc area z in
    let s : Setting = w.setting in
    let k : ℕ = count w (lane s l).channel in
    let x : List ℕ = frame_of s l k batch ins oc (number w l) in
    let b = read_back s a.good.setting l a.numbered k (a.good.counts (lane s l).channel (a.good.setting.lanes l a.numbered).channel) ins oc
    a.insert a.ocf batch (number w l) in
    rw (sym (write-answered w l batch ins oc area) ∙ e) (
      subst (FrameBack s l k batch ins oc (number w l)) (sym (ap (λ (n : ℕ). take n (laid area 0 x)) (sym b.full) ∙ laid-front area x)) b,
      ap (λ (n : ℕ). drop n (laid area 0 x)) (sym b.full) ∙ laid-behind area x ∙ ap (λ (n : ℕ). drop n area) b.full,
    )
