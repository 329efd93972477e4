-- `setting::writer_ok` meets its contract. A valid setting has at most 8 lanes.
use Rattle.std.proofs.Common.{rules}
use Rattle.rules.proofs.Valid.{good}
use Rattle.setting.proofs.writer_ok.Goals as goal

pub numbers_ok-requires : goal.numbers_ok-requires
numbers_ok-requires c = (good c.args.w.setting (search rules)).numbered
