use Rattle.lent.specs.Behind.{puts_next, puts_none}
use Rattle.figures.proofs.span.Goals as goal

pub returns : goal.returns
returns c =
    puts_next c.decimal-e.ensures (puts_next c.word-f.ensures (puts_next c.put_two-g.ensures (puts_next c.word.ensures (puts_none _ _))))
