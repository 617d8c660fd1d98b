use Rattle.lent.specs.Behind.{puts_next, puts_none}
use Rattle.figures.proofs.put_numbers.Goals as goal

pub returns : goal.returns
returns c =
    puts_next c.word-a.ensures (puts_next c.decimal-b.ensures (puts_next c.word-c.ensures (puts_next c.decimal-d.ensures (puts_next c.word.ensures (puts_none _ _)))))
