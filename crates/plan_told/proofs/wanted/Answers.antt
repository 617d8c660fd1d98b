use Rattle.lent.specs.Behind.{puts_append, puts_next, puts_none}
use Rattle.plan_told.proofs.wanted.Goals as goal

pub returns : goal.returns
returns c =
    let front = puts_append (puts_next c.word-a.ensures (puts_next c.decimal-b.ensures (puts_next c.word-c.ensures (puts_none _ _)))) c.of_instance-d.ensures in
    puts_append (puts_append front (puts_next c.word-e.ensures (puts_none _ _))) c.of_type.ensures
