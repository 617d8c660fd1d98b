use Rattle.lent.specs.Behind.{puts_append, puts_next, puts_none}
use Rattle.sheet_svg.proofs.head.Goals as goal

pub returns : goal.returns
returns c =
    puts_next c.word-a.ensures (puts_next c.word-b.ensures (puts_next c.word-c.ensures (puts_append c.put_title-d.ensures (puts_next c.word.ensures (puts_none _ _)))))
