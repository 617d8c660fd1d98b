use Rattle.lent.specs.Behind.{puts_next, puts_none}
use Rattle.sheet.proofs.seconds.Goals as goal

pub returns-in-None : goal.returns-in-None
returns-in-None c = rw c.in-None.is (puts_next c.byte.ensures (puts_none _ _))
