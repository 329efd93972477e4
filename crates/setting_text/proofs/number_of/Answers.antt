-- A digit more, or no number.
use Rattle.std.proofs.Common.{sym, ◌∙◌, arith, add-one, eqb-true}
use Rattle.std.proofs.lemmas.Bool.{eqb-false}
use Rattle.setting_text.proofs.Texts.{number-turn, number-stop, number_large, number-end, number-some, number-none}
use Rattle.setting_text.proofs.number_of.Goals as goal

pub returns-then-is_empty : goal.returns-then-is_empty
returns-then-is_empty c = sym (number-none _ (eqb-true _ _ (sym c.if-is_empty.ensures)))

pub loop-x-init : goal.loop-x-init
loop-x-init c =
    let h = eqb-false _ _ (sym c.if-is_empty.ensures) in
    (omega arith, number-some _ (omega arith))

pub returns-then-not-is_ascii_digit : goal.returns-then-not-is_ascii_digit
returns-then-not-is_ascii_digit c =
    sym (c.loop-x.invariant.1 ∙ number-stop c.loop-x.v c.args.word.now c.loop-x.x-index c.loop-x-test.true (sym c.if-not-is_ascii_digit.ensures.value))

pub returns-then-v-gt65535 : goal.returns-then-v-gt65535
returns-then-v-gt65535 c =
    sym (c.loop-x.invariant.1 ∙ number-turn c.loop-x.v c.args.word.now c.loop-x.x-index c.loop-x-test.true (sym c.if-not-is_ascii_digit.ensures.value)
    ∙ number_large _ _ (rw (sym c.from.ensures) c.if-v-gt65535.true))

pub loop-x-preserved : goal.loop-x-preserved
loop-x-preserved c = (
  c.if-v-gt65535.false,
  c.loop-x.invariant.1
      ∙ rw (add-one, c.from.ensures) (number-turn c.loop-x.v c.args.word.now c.loop-x.x-index c.loop-x-test.true (sym c.if-not-is_ascii_digit.ensures.value)),
)

pub returns : goal.returns
returns c =
    sym (c.loop-x.invariant.1 ∙ number-end c.loop-x.v c.args.word.now c.loop-x.x-index c.loop-x-test.false c.loop-x.invariant.0)
