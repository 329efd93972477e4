-- `fecf::shortened` meets its contract: what is handed on are the octets that are left.
use Rattle.std.proofs.Common.{arith, ◌∙◌, ◌≡◌, ap, List, ℕ, take}
use Rattle.fecf.specs.Folds.{shorter}
use Rattle.fecf.proofs.Turns.{preset-front}
use Rattle.fecf.proofs.shortened.Goals as goal

-- So many octets, by another number for how many there are.
counted : (k m : ℕ) (b : List ℕ) → k ≡ m → take k b ≡ take m b
counted k m b e = ap (λ (n : ℕ). take n b) e

pub returns : goal.returns
returns g c =
    let a = c.args in
    let long = preset-front a.u g.row.N a.first (omega arith) (omega arith) in
    record {
      shown = _;
      says = record { met = c.next.ensures };
      shows = counted _ _ _ (omega arith) ∙ c.shorten.ensures ∙ ap (λ (l : List ℕ). shorter a.u l a.octets.now) long;
    }
