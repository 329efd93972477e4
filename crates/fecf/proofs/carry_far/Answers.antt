use Rattle.std.proofs.Common.{rules, arith, sym, ap, ◌∙◌, ◌≡◌, ◌<◌, take, length}
use Rattle.std.specs.Slice.Iter.{chunks_exact_rest}
use Rattle.fecf.specs.Folds.{carried}
use Rattle.fecf.proofs.Turns.{blocks_none, blocks_more, blocks-end, far-turn}
use Rattle.fecf.proofs.carry_far.Goals as goal

pub loop-block-init : goal.loop-block-init
loop-block-init c = record {
  passed = blocks_none _ _ (search rules);
  size = search rules;
  so_far = search rules;
}

pub loop-block-preserved : goal.loop-block-preserved
loop-block-preserved c =
    let was = c.loop-block.invariant in
    let step = c.in-Some.ensures.steps in
    let block = c.in-Some.block.now in
    let next = chunks_exact_rest c.next.new.self in
    let long : length block ≡ 512 = step.1.1 ∙ was.size in
    record {
      passed = blocks_more c.args.octets.now _ block next step.1.0 long was.passed;
      size = step.0 ∙ was.size;
      so_far =
          was.so_far ∙ ap (carried 16 (take 256 c.loop-block.area)) step.1.0
          ∙ far-turn c.loop-block.area c.carry.new.area _ block next (search rules) long c.carry.ensures c.copy_within.ensures.after;
    }

pub returns : goal.returns
returns c =
    let was = c.loop-block.invariant in
    let left = chunks_exact_rest c.loop-block.block-iterator in
    let few : length left < 512 = search rules in
    let rest : left ≡ c.remainder-rest.result.now = blocks-end c.args.octets.now left was.passed few ∙ search rules in (
      omega (arith, ap length rest),
      c.carry-2.ensures ∙ ap (carried 16 (take 256 c.loop-block.area)) (sym rest) ∙ sym was.so_far,
    )
