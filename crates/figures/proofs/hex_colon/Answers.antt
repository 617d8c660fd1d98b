use Rattle.lent.specs.Behind.{puts_next, puts_none}
use Rattle.figures.proofs.hex_colon.Goals as goal

pub returns : goal.returns
returns c =
    puts_next c.hex-e.ensures (puts_next c.word.ensures (puts_none _ _))
