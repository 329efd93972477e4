-- The gathering, one packet at a time.
use mathlib.Core.Path.{◌≡◌, sym}
use Prim.Native.Nat.{ℕ, ◌+◌, ◌-◌, ◌≤◌, ◌<◌}
use native.Mathlib.Nat.{zero-add, add-zero, add_assoc}
use native.Mathlib.Omega.{arith}
use mathlib.Core.Bool.{and-false}
use mathlib.Core.List.{List, [], ◌∷◌}
use lib.ListN.{length, take, drop, length-append, length-drop, drop_of_length-le}
use lib.Seq.{length-take-le}
use borrow.Author.Tests.{le-leb, lt-leb}
use Rattle.rules.specs.Tests.{◌≤?◌}
use Rattle.rules.specs.Areas.{joined, batch_size}
use Rattle.rules.specs.Packets.{packets_up_to, packets}
use Rattle.streams.specs.FileBatches.{fitting, gathered}

-- How many octets of these fit into the room that i octets leave.
abbrev pub more : ℕ → List ℕ → ℕ → ℕ
more longest xs i = length (joined (fitting longest (batch_size - i) (packets (drop i xs))))

module _ (longest : ℕ) (xs : List ℕ) where
  pub from-none : gathered longest xs ≡ 0 + more longest xs 0
  unfolding gathered
  from-none = rw zero-add

  module _ (i : ℕ) where
    pub at-end : length xs ≤ i → i + more longest xs i ≡ i
    unfolding packets packets_up_to fitting joined
    at-end h = rw (drop_of_length-le xs h) (add-zero i)

    pub no-packet : packets (drop i xs) ≡ [] → i + more longest xs i ≡ i
    unfolding fitting joined
    no-packet e = rw e (add-zero i)

    module _ (n : ℕ) (fit : n ≤ length xs - i) (e : packets (drop i xs) ≡ take n (drop i xs) ∷ packets (drop (i + n) xs)) where
      size : length (take n (drop i xs)) ≡ n
      size = length-take-le n (drop i xs) (rw (length-drop i xs) fit)

      pub too_long : longest < n → i + more longest xs i ≡ i
      unfolding fitting joined
      too_long h = rw (e, size, lt-leb n longest h) (add-zero i)

      pub no_room : batch_size - i < n → i + more longest xs i ≡ i
      unfolding fitting joined
      no_room h = rw (e, size, lt-leb n (batch_size - i) h, and-false (n ≤? longest)) (add-zero i)

      pub one_more : n ≤ longest → n ≤ batch_size - i → i + more longest xs i ≡ i + n + more longest xs (i + n)
      unfolding fitting joined
      one_more h r =
          let z : batch_size - i - n ≡ batch_size - (i + n) = omega arith in
          rw (e, size, le-leb n longest h, le-leb n (batch_size - i) r, length-append, size, z) (sym (add_assoc i n _))
