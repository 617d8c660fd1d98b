use Rattle.lent.specs.Behind.{puts_next, puts_none}
use Rattle.plan_told.proofs.left.Goals as goal

pub returns : goal.returns
returns c =
    puts_next c.word-a.ensures (puts_next c.decimal-b.ensures (puts_next c.byte.ensures (puts_none _ _)))
