use Rattle.lent.specs.Behind.{puts_append, puts_next, puts_none}
use Rattle.filter_text.proofs.placed.Goals as goal

pub returns : goal.returns
returns c =
    rw (← c.start.ensures)
    (puts_append (puts_next c.word-a.ensures (puts_next c.decimal-b.ensures (puts_next c.word-c.ensures (puts_next c.decimal-d.ensures (puts_next c.word-e.ensures (puts_none _ _)))))) c.hexes.ensures)
