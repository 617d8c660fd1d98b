use Rattle.lent.specs.Behind.{puts_append, puts_next, puts_none}
use Rattle.plan_told.proofs.bad.Goals as goal

pub returns : goal.returns
returns c =
    let front = puts_append (puts_append (puts_next c.word-a.ensures (puts_none _ _)) c.placed-b.ensures) c.numbered-c.ensures in
    puts_append (puts_append (puts_append front c.reason-d.ensures) (puts_next c.byte-e.ensures (puts_none _ _))) c.too_many.ensures
