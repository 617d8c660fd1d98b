use Rattle.lent.specs.Behind.{puts_append, puts_next, puts_none}
use Rattle.sheet_svg.proofs.time_line.Goals as goal

pub returns : goal.returns
returns c =
    puts_append (rw c.place.ensures at c.numbered-a.ensures) (puts_next c.word-b.ensures (puts_next c.put_time-c.ensures (puts_next c.word.ensures (puts_none _ _))))
