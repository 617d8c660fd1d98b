use Rattle.lent.specs.Behind.{puts_append, puts_next, puts_none}
use Rattle.sheet_svg.proofs.count_line.Goals as goal

pub returns : goal.returns
returns c =
    puts_append (rw c.height-h.ensures at c.bar-a.ensures) (puts_append (rw c.height-h.ensures at c.above-b.ensures) (puts_next c.decimal-c.ensures (puts_next c.word.ensures (puts_none _ _))))
