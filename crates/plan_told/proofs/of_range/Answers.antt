use Rattle.lent.specs.Behind.{puts_next, puts_none}
use Rattle.plan_told.proofs.of_range.Goals as goal

pub returns : goal.returns
returns c =
    rw (← c.byte_at.ensures, ← c.byte_at-2.ensures) (puts_next c.word-a.ensures (puts_next c.decimal-b.ensures (puts_next c.word-c.ensures (puts_next c.decimal-d.ensures (puts_next c.word.ensures (puts_none _ _))))))
