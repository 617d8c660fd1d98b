use Rattle.lent.specs.Behind.{puts_append, puts_next, puts_none}
use Rattle.sheet.proofs.csv.Goals as goal

pub returns : goal.returns
returns c =
    puts_append (puts_append (puts_append (puts_append (puts_next c.word-d.ensures (puts_none _ _)) c.row-e.ensures) c.row-f.ensures) c.row-g.ensures) c.row.ensures
