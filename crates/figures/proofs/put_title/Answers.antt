use Rattle.lent.specs.Behind.{puts_append, puts_next}
use Rattle.figures.proofs.put_title.Goals as goal

pub returns : goal.returns
returns c =
    puts_next c.word-a.ensures (puts_append c.put_mac-b.ensures c.put_numbers.ensures)
