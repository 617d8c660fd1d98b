use Rattle.lent.specs.Behind.{puts_next, puts_none}
use Rattle.sheet_text.proofs.season.Goals as goal

pub returns : goal.returns
returns c =
    puts_next c.word-e.ensures (puts_next c.decimal.ensures (puts_none _ _))
