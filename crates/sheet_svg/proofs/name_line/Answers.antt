use Rattle.lent.specs.Behind.{puts_append, puts_next, puts_none}
use Rattle.sheet_svg.proofs.name_line.Goals as goal

pub returns : goal.returns
returns c =
    puts_append (rw c.place.ensures at c.numbered-a.ensures) (puts_append c.numbered-b.ensures (puts_next c.word.ensures (puts_none _ _)))
