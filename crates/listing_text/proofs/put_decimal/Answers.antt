-- A number's digits: below ten the one, below a hundred the two, else as the library has them.
use Rattle.std.proofs.Common.{◌≡◌, ◌+◌, rules, arith, ◌∙◌, ◌∷◌, []}
use Rattle.rules.specs.Listing.{decimal}
use Rattle.listing_text.proofs.Laws.{put-length, put_then, decimal-printed, decimal_digit, decimal_two, length-decimal_two}
use Rattle.listing_text.proofs.put_decimal.Goals as goal

pub put_octet-requires : goal.put_octet-requires
put_octet-requires c =
    let e : decimal c.args.v ≡ (48 + c.args.v) ∷ [] = decimal_digit c.args.v (omega arith) in
    rw e at c.requires

pub returns-then-v-lt10 : goal.returns-then-v-lt10
returns-then-v-lt10 c =
    let e : decimal c.args.v ≡ (48 + c.args.v) ∷ [] = decimal_digit c.args.v (omega arith) in
    rw e c.put_octet.ensures

pub put_octet-at-requires : goal.put_octet-at-requires
put_octet-at-requires c = omega (arith, c.requires, length-decimal_two c.args.v (omega arith) (omega arith))

pub put_octet-requires-then-v-lt100 : goal.put_octet-requires-then-v-lt100
put_octet-requires-then-v-lt100 c =
    let n = length-decimal_two c.args.v (omega arith) (omega arith) in
    let p = c.put_octet-at.ensures in
    omega (arith, c.requires, n, p.ends, put-length p (omega (arith, c.requires, n)))

pub returns-then-v-lt100 : goal.returns-then-v-lt100
returns-then-v-lt100 c =
    let n = length-decimal_two c.args.v (omega arith) (omega arith) in
    rw (decimal_two c.args.v (omega arith) (omega arith))
    (put_then _ _ _ _ _ _ _ _ (omega (arith, c.requires, n)) c.put_octet-at.ensures c.put_octet-then-v-lt100.ensures)

pub put_text-requires : goal.put_text-requires
put_text-requires c =
    let e : c.as_bytes.result.now ≡ decimal c.args.v = c.as_bytes.ensures.value ∙ c.format.ensures.text ∙ decimal-printed c.args.v (search rules) in
    rw e c.requires

pub returns : goal.returns
returns c =
    let e : c.as_bytes.result.now ≡ decimal c.args.v = c.as_bytes.ensures.value ∙ c.format.ensures.text ∙ decimal-printed c.args.v (search rules) in
    rw (← e) c.put_text.ensures
