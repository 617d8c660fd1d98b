use Rattle.lent.specs.Behind.{puts_next, puts_none}
use Rattle.plan_told.proofs.unknown.Goals as goal

pub returns : goal.returns
returns c =
    rw (← c.byte_at.ensures) (puts_next c.word-a.ensures (puts_next c.hex.ensures (puts_none _ _)))
