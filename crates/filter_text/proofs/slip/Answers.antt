use Rattle.lent.specs.Behind.{puts_append, puts_next, puts_none}
use Rattle.filter_text.proofs.slip.Goals as goal

pub returns : goal.returns
returns c =
    puts_append (puts_append (puts_next c.word-a.ensures (puts_none _ _)) c.filter-b.ensures) (puts_next c.word.ensures (puts_none _ _))
