-- What the n-th of the parts is, or that there is none.
use Rattle.std.proofs.Common.{rules, tests, arith, ap, length}
use Rattle.listing_text.proofs.Laws.{put-none}
use Rattle.listing_text.proofs.Turns.{part-nth}
use Rattle.listing_text.proofs.put_part.Goals as goal

pub put_text-requires : goal.put_text-requires
put_text-requires c =
    let s = c.split.ensures in
    let e = part-nth _ c.args.texts.now c.args.n _ _ c.nth.ensures.ran s.rest s.done s.closure (λ x b q k. search (rules, tests)) in
    omega (arith, ap length (rw c.in-Some.is at e), c.requires)

pub returns-in-Some : goal.returns-in-Some
returns-in-Some c =
    let s = c.split.ensures in
    let e = part-nth _ c.args.texts.now c.args.n _ _ c.nth.ensures.ran s.rest s.done s.closure (λ x b q k. search (rules, tests)) in
    rw (rw c.in-Some.is at e) c.put_text.ensures

pub returns-in-None : goal.returns-in-None
returns-in-None c =
    let s = c.split.ensures in
    let e = part-nth _ c.args.texts.now c.args.n _ _ c.nth.ensures.ran s.rest s.done s.closure (λ x b q k. search (rules, tests)) in
    rw (rw c.in-None.is at e) (put-none _ _)
