use Rattle.printed.specs.Over.{head_puts}
use Rattle.printed.proofs.long_head.Goals as goal

pub returns : goal.returns
returns c = head_puts c.args.number c.args.n c.requires c.decimal-a.ensures c.byte-b.ensures c.decimal-c.ensures c.byte.ensures
