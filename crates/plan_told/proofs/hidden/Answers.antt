use Rattle.lent.specs.Behind.{puts_append, puts_next, puts_none}
use Rattle.plan_told.proofs.hidden.Goals as goal

pub returns : goal.returns
returns c =
    let line = puts_append (puts_append c.wanted-a.ensures (puts_next c.word-b.ensures (puts_none _ _))) c.placed-c.ensures in
    puts_append (puts_append line (puts_next c.byte-d.ensures (puts_none _ _))) c.since.ensures
