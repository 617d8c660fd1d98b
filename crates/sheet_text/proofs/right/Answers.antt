use Rattle.lent.specs.Behind.{puts_next, puts_none}
use Rattle.sheet_text.proofs.right.Goals as goal

pub returns : goal.returns
returns c =
    let x = rw c.gap.ensures.0 at c.same-e.ensures in
    puts_next x (puts_next c.word.ensures (puts_none _ _))
