use Rattle.lent.specs.Behind.{puts_append, puts_next, puts_none}
use Rattle.plan_told.proofs.adds.Goals as goal

pub returns : goal.returns
returns c =
    puts_append (puts_next c.word-a.ensures (puts_next c.decimal-b.ensures (puts_next c.word-c.ensures (puts_none _ _)))) c.filter_line.ensures
