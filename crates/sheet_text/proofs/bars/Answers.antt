use Rattle.lent.specs.Behind.{puts_append, puts_next, puts_none}
use Rattle.sheet_text.proofs.bars.Goals as goal

pub returns : goal.returns
returns c =
    let rows = rw c.greatest-most.ensures at c.bar_rows.ensures in
    puts_append (puts_next c.byte-e.ensures (puts_next c.word-f.ensures (puts_next c.byte-g.ensures (puts_none _ _)))) rows
