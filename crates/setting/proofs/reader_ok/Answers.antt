-- `setting::reader_ok` meets its contract. A valid setting has at most 8 lanes.
use Rattle.std.proofs.Common.{rules}
use Rattle.rules.proofs.Valid.{good}
use Rattle.setting.proofs.reader_ok.Goals as goal

pub slots_ok-requires : goal.slots_ok-requires
slots_ok-requires c = (good c.args.r.setting (search rules)).numbered
