use Rattle.lent.specs.Behind.{puts_append, puts_next, puts_none}
use Rattle.sheet_svg.proofs.gap_line.Goals as goal

pub returns : goal.returns
returns c =
    puts_append (rw c.gap_height-h.ensures at c.bar-a.ensures) (puts_append (rw c.gap_height-h.ensures at c.above-b.ensures) (puts_append c.hours-c.ensures (puts_next c.word.ensures (puts_none _ _))))
