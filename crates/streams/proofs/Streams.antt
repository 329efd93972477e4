-- Windows and what they hold, and the next batch by its cases.
use Prim.Native.Nat.{ℕ, ◌+◌, ◌-◌, ◌≤◌}
use native.Mathlib.Omega.{arith}
use mathlib.Core.Path.{◌≡◌, sym, ap, ap₂, subst, ◌∙◌}
use mathlib.Core.List.{List, ◌++◌}
use lib.ListN.{length, take, drop, length-drop}
use lib.Seq.{take-append-le, length-take-le}
use Rattle.rules.specs.Areas.{laid}
use Rattle.rules.proofs.Areas.{length-laid, laid-front}
use Rattle.std.specs.Prelude.{Option, Some, None, Ok, Err}
use Rattle.std.specs.Option.{UnwrapsOrElse}
use Rattle.std.specs.Result.{result_err, result_unwrap_or}
use Rattle.intake.specs.declared.Window.{Window}
use Rattle.streams.specs.declared.Fault.{Fault}
use Rattle.streams.specs.declared.Stream.{Stream}
use Rattle.streams.specs.declared.Batch.{Batch}
use Rattle.streams.specs.declared.Begun.{Begun}
use Rattle.streams.specs.Streams.{Next, moved, next_of, no_batch, batch_of, with_batch, BegunOf, Began}

-- What is behind a batch stands at the front once it is moved there.
pub shifted : (area : List ℕ) (have n : ℕ) → have ≤ length area
    → take (have - n) (laid (take have area) 0 (drop n (take have area)) ++ drop have area) ≡ drop n (take have area)
shifted area have n h =
    let xs : List ℕ = take have area in
    let l : length xs ≡ have = length-take-le have area h in
    let m : length (drop n xs) ≡ length xs - n = length-drop n xs in
    let r : 0 + length (drop n xs) ≤ length xs = omega arith in
    let k : have - n ≡ length (drop n xs) = omega arith in
    ap (λ (i : ℕ). take i (laid xs 0 (drop n xs) ++ drop have area)) k
    ∙ take-append-le (length (drop n xs)) (laid xs 0 (drop n xs)) (drop have area) (omega (arith, length-laid xs 0 (drop n xs) r))
    ∙ laid-front xs (drop n xs)

-- ---- the next batch

-- The batch that is next, or else one of no octets.
pub batch-is : {P : Batch → Type 0} → ((x : Batch) → P x → x ≡ no_batch) → (n : Next) (b : Batch) {o : Option Batch} → o ≡ result_unwrap_or n None
    → UnwrapsOrElse o P b → b ≡ batch_of n
batch-is {P} h n b e u = go n (subst (λ (o : Option Batch). UnwrapsOrElse o P b) e u)
  where
    go : (n : Next) → UnwrapsOrElse (result_unwrap_or n None) P b → b ≡ batch_of n
    go (Ok (Some x)) q = q
    go (Ok None) q = h b q
    go (Err f) q = h b q

-- A batch begun, by its steps.
pub begun-by : (s : Stream) (xs list ys : List ℕ) {have : ℕ} {n : Next} {b : Batch} {after : Window} {f : Option Fault} → have ≤ length list
    → take have list ≡ take s.list.have list → n ≡ next_of s xs (take have list) → b ≡ batch_of n
    → ys ≡ laid (take have list) 0 (drop b.used (take have list)) → after ≡ moved s.list have b.used
    → f ≡ result_err n → Began s xs list (record { stream = with_batch s after b.octets; fault = f }) (ys ++ drop have list)
unfolding moved
begun-by s xs list ys {have} {n} {b} {after} {f} h e q d z a g =
    let r : Begun = record { stream = with_batch s after b.octets; fault = f } in
    let k : length (take have list) ≡ have = length-take-le have list h in
    let m : after.have ≡ have - b.used = ap (λ (w : Window). w.have) a in
    let inner : BegunOf s n (take have list) r (ys ++ drop have list) = record {
      stream = ap₂ (λ (w : Window) (c : Batch). with_batch s w c.octets) (a ∙ ap₂ (λ (i : ℕ) (c : Batch). moved s.list i c.used) (sym k) d) d;
      fault = g;
      left = ap (λ (i : ℕ). take i (ys ++ drop have list)) m ∙ ap (λ (zs : List ℕ). take (have - b.used) (zs ++ drop have list)) z
          ∙ shifted list have b.used h ∙ ap (λ (c : Batch). drop c.used (take have list)) d;
    } in
    subst (λ (ls : List ℕ). BegunOf s (next_of s xs ls) ls r (ys ++ drop have list)) e
    (subst (λ (x : Next). BegunOf s x (take have list) r (ys ++ drop have list)) q inner)
