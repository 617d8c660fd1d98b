use Rattle.lent.specs.Behind.{puts_append, puts_next, puts_none}
use Rattle.sheet_text.proofs.bar_row.Goals as goal

pub returns : goal.returns
returns c =
    puts_append (puts_append c.season-d.ensures (puts_next c.word-e.ensures c.bar-f.ensures)) (puts_next c.word-h.ensures (puts_next c.decimal-i.ensures (puts_next c.byte.ensures (puts_none _ _))))
