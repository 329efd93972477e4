-- As many octets are cut as there are.
use mathlib.Core.Path.{◌≡◌, sym, ap, ◌∙◌}
use Prim.Native.Nat.{ℕ, ◌-◌}
use lib.ListN.{length, take, drop, length-drop}
use Rattle.std.proofs.Math.Seq.{take-length}
use Rattle.std.proofs.lemmas.List.{take_min, drop_min}
use Rattle.obey.specs.Requests.{cut}
use Rattle.obey.proofs.requests.part.Goals as goal

pub returns : goal.returns
unfolding cut
returns c =
    let s = c.args.s.now in
    let m = c.min.result in
    let back : take (length s - m) (drop m s) ≡ drop c.args.from s =
    ap (λ (k : ℕ). take k (drop m s)) (sym (length-drop m s)) ∙ take-length (drop m s) ∙ ap (λ (k : ℕ). drop k s) c.min.ensures
    ∙ drop_min c.args.from s in
    ap (λ (k : ℕ). take k (take (length s - m) (drop m s))) c.least.ensures ∙ take_min c.args.n _ ∙ ap (take c.args.n) back
