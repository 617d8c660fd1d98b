use Rattle.lent.specs.Behind.{puts_append, puts_next, puts_none}
use Rattle.sheet_text.proofs.gaps_row.Goals as goal

pub returns : goal.returns
returns c =
    puts_append (puts_append (puts_append (puts_append (puts_append c.season-d.ensures c.longest-e.ensures) c.mean-f.ensures) c.number-h.ensures) c.number-i.ensures) (puts_next c.byte.ensures (puts_none _ _))
