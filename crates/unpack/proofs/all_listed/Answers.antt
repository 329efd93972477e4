-- `unpack::all_listed`: a valid setting lists at most eight channels.
use Rattle.rules.proofs.Valid.{good}
use Rattle.unpack.proofs.all_listed.Goals as goal

pub unlisted-requires : goal.unlisted-requires
unlisted-requires c = (good _ c.requires).listed
