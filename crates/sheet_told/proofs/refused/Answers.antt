use Rattle.lent.specs.Behind.{puts_append, puts_next, puts_none}
use Rattle.sheet_told.proofs.refused.Goals as goal

pub returns : goal.returns
returns c =
    puts_append (puts_append (puts_next c.word-e.ensures (puts_none _ _)) c.reason-f.ensures) (puts_next c.byte.ensures (puts_none _ _))
