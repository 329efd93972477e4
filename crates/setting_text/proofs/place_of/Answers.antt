-- The first of the words that is this one.
use Rattle.std.proofs.Common.{◌≡◌, ℕ, ◌+◌, List, [], ◌∷◌, cond, refl, ap, ◌∙◌, rules, tests, Bor, map, Option, Some}
use Rattle.std.proofs.lemmas.Iterator.{YieldsList-from_slice}
use Rattle.std.proofs.lemmas.Iterator.Search.{position_from_yields_List}
use Rattle.std.proofs.lemmas.Iterator.Adapters.{position_from-zero}
use Rattle.std.specs.List.{position_from}
use Rattle.setting_text.specs.Texts.{same}
use Rattle.setting_text.specs.Table.{place}
use Rattle.setting_text.proofs.place_of.Goals as goal

place_at : (n : ℕ) (w : List ℕ) (ks : List (Bor (List ℕ))) → position_from (λ k. same w k.now) n ks ≡ place n w (map (λ k. k.now) ks)
unfolding place
place_at n w [] = refl
place_at n w (k ∷ ks) = ap (λ (o : Option ℕ). cond (same w k.now) (Some n) o) (place_at (n + 1) w ks)

pub returns : goal.returns
returns c =
    let w = c.args.word.now in
    let ks = c.args.keys.now in
    position_from_yields_List (λ (k : Bor (List ℕ)). same w k.now) _ _ _ c.position.ensures.ran (YieldsList-from_slice ks cc)
    (λ x b q k. search (rules, tests))
    ∙ position_from-zero (λ (k : Bor (List ℕ)). same w k.now) ks ∙ place_at 0 w ks
