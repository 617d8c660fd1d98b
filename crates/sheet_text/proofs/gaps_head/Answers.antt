use Rattle.lent.specs.Behind.{puts_next, puts_none}
use Rattle.sheet_text.proofs.gaps_head.Goals as goal

pub returns : goal.returns
returns c =
    puts_next c.byte-e.ensures (puts_next c.word.ensures (puts_none _ _))
