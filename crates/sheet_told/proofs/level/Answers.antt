use Rattle.lent.specs.Behind.{puts_next, puts_none}
use Rattle.sheet_told.proofs.level.Goals as goal

pub returns : goal.returns
returns c =
    puts_next c.word-c.ensures (puts_next c.decimal-d.ensures (puts_next c.word-e.ensures (puts_next c.decimal-f.ensures (puts_next c.word-g.ensures (puts_next c.decimal.ensures (puts_none _ _))))))
