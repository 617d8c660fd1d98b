use Rattle.lent.specs.Behind.{puts_next, puts_none}
use Rattle.quiet_told.proofs.outside.Goals as goal

pub returns : goal.returns
returns c = rw (← c.third.ensures) (puts_next c.word-a.ensures (puts_next c.hex-b.ensures (puts_next c.word.ensures (puts_none _ _))))
