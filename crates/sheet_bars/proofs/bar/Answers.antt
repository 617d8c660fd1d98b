use Rattle.lent.specs.Behind.{puts_append, puts_next, puts_none}
use Rattle.sheet_bars.proofs.bar.Goals as goal

pub returns : goal.returns
returns c =
    puts_append c.numbered-a.ensures (puts_append c.numbered-b.ensures (puts_append c.numbered-c.ensures (puts_next c.word-d.ensures (puts_next c.word-e.ensures (puts_next c.word.ensures (puts_none _ _))))))
