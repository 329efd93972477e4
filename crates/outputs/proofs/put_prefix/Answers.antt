use Rattle.outputs.proofs.Endings.{whole_prefix}
use Rattle.outputs.proofs.put_prefix.Goals as goal

pub returns-else-prefix-gt4096 : goal.returns-else-prefix-gt4096
returns-else-prefix-gt4096 c = whole_prefix c.args.prefix.now c.if-prefix-gt4096.false c.put_text-else-prefix-gt4096.ensures
