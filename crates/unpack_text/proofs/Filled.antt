-- The lines as labels with a number behind each, and an end.
use Prim.Native.Nat.{ℕ}
use mathlib.Core.Path.{◌≡◌, refl}
use mathlib.Core.List.{[], ◌∷◌, ◌++◌, append_assoc}
use Rattle.rules.specs.declared.Answer.{Answer}
use Rattle.rules.specs.Listing.{text, decimal}
use Rattle.listing_text.proofs.Patterns.{strung}
use Rattle.unpack_text.specs.declared.LaneTally.{LaneTally}
use Rattle.unpack_text.specs.declared.ChannelTally.{ChannelTally}
use Rattle.unpack_text.specs.declared.Tally.{Tally}
use Rattle.unpack_text.specs.Lines.{given_text, rest_text, lane_line, channel_line, classes_text, sums_text, total_line}

pub left-strung : (k : ℕ) → strung ([] ∷ []) (k ∷ []) (text " left ") ≡ decimal k ++ text " left "
unfolding strung
left-strung k = refl

pub counts_strung : (a : Answer) → strung (text " " ∷ text " " ∷ text " " ∷ text " " ∷ text " " ∷ text " " ∷ [])
    (a.units ∷ a.octets ∷ a.missing ∷ a.idle ∷ a.fill ∷ a.dropped ∷ []) (text "\n") ≡ given_text a ++ rest_text a
unfolding strung given_text rest_text
counts_strung a = simp append_assoc

pub lane-strung : (l : ℕ) (t : LaneTally) → strung (text "lane " ∷ text " frames " ∷ text " units " ∷ text " octets " ∷ [])
    (l ∷ t.frames ∷ t.units ∷ t.octets ∷ []) (text "\n") ≡ lane_line l t
unfolding strung lane_line
lane-strung l t = simp append_assoc

pub channel-strung : (vc service : ℕ) (t : ChannelTally)
    → strung (text "channel " ∷ text " service " ∷ text " frames " ∷ text " missing " ∷ []) (vc ∷ service ∷ t.frames ∷ t.missing ∷ []) (text "\n")
    ≡ channel_line vc service t
unfolding strung channel_line
channel-strung vc service t = simp append_assoc

pub total-strung : (t : Tally) (held : ℕ) → strung
    (text "total frames " ∷ text " read " ∷ text " counted " ∷ text " idle " ∷ text " repeat " ∷ text " refused " ∷ text " left "
    ∷ text " units " ∷ text " octets " ∷ text " idle " ∷ text " fill " ∷ text " dropped " ∷ text " held " ∷ [])
    (t.classes.frames ∷ t.classes.read ∷ t.classes.counted ∷ t.classes.idle ∷ t.classes.repeats ∷ t.classes.refused ∷ t.classes.left
    ∷ t.sums.units ∷ t.sums.octets ∷ t.sums.idle ∷ t.sums.fill ∷ t.sums.dropped ∷ held ∷ [])
    (text "\n") ≡ total_line t held
unfolding strung total_line classes_text sums_text
total-strung t held = simp append_assoc
