-- `setting::numbers_ok` meets its contract: what the chain asks of each is what the rule asks of each number.
use Rattle.std.proofs.Common.{rules}
use Rattle.std.proofs.iter.runs.Sources.{ranges}
use Rattle.std.proofs.lemmas.Grind.{common_steps}
use Rattle.setting.proofs.Everys.{is_every}
use Rattle.setting.proofs.numbers_ok.Goals as goal

pub returns : goal.returns
returns c = is_every _ _ _ (search (rules, ranges, common_steps))
