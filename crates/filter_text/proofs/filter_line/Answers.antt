use Rattle.lent.specs.Behind.{puts_append, puts_next, puts_none}
use Rattle.filter_text.proofs.filter_line.Goals as goal

pub returns : goal.returns
returns c =
    puts_append c.filter-a.ensures (puts_next c.byte.ensures (puts_none _ _))
