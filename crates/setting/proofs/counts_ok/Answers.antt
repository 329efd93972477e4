-- `setting::counts_ok` meets its contract. A valid setting has at most 8 channels, and at most 7 octets to a count, so that 256^n is below 2^64.
use Rattle.std.proofs.Common.{rules, arith, ◌%◌, ◌^◌, ◌≤◌, get_or, ap, sym, ◌∙◌, refl}
use Rattle.std.proofs.iter.runs.Sources.{ranges}
use Rattle.std.proofs.lemmas.Grind.{common_steps}
use lib.Dec.{ltb}
use Rattle.rules.specs.Tests.{◌<?◌}
use Rattle.rules.specs.Settings.{channel}
use Rattle.rules.proofs.Valid.{good}
use Rattle.octets.proofs.Turns.{modulus_all}
use Rattle.setting.proofs.Everys.{is_every, every_same}
use Rattle.setting.proofs.counts_ok.Goals as goal

pub shared_ref_as_front-iter : goal.shared_ref_as_front-iter
shared_ref_as_front-iter c = (good _ c.requires).listed

pub returns : goal.returns
returns c =
    let a = c.args in
    let n : a.s.listed ≤ 8 = (good _ c.requires).listed in
    is_every _ _ (λ i. get_or a.counts i 0 <? 256 ^ (channel a.s i).octets % 2 ^ 64) (search (rules, ranges, common_steps))
    ∙ every_same _ _ _ (λ i h.
    let k = ((good _ c.requires).channels i h).seven in
    ap (ltb (get_or a.counts i 0)) (sym (modulus_all _ _ _ (omega arith) (omega arith) (omega arith) refl)))
