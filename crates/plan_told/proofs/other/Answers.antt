use Rattle.lent.specs.Behind.{puts_next, puts_none}
use Rattle.plan_told.proofs.other.Goals as goal

pub returns : goal.returns
returns c =
    rw (← c.byte_at-command.ensures) (puts_next c.word-a.ensures (puts_next c.hex-b.ensures (puts_next c.word-c.ensures (puts_next c.put-d.ensures (puts_next c.word.ensures (puts_none _ _))))))
