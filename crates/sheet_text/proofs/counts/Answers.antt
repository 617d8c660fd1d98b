use Rattle.lent.specs.Behind.{puts_append, puts_next, puts_none}
use Rattle.sheet_text.proofs.counts.Goals as goal

pub returns : goal.returns
returns c =
    puts_append (puts_append (puts_append c.number-e.ensures c.number-f.ensures) c.number-h.ensures) (puts_next c.byte.ensures (puts_none _ _))
