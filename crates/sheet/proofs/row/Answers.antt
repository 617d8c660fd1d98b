use Rattle.lent.specs.Behind.{puts_append, puts_next, puts_none}
use Rattle.sheet.proofs.row.Goals as goal

pub returns : goal.returns
returns c =
    puts_append (puts_append (puts_append c.when-e.ensures c.counts-f.ensures) c.gaps-h.ensures) (puts_next c.byte.ensures (puts_none _ _))
