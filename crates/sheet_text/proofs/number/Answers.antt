use Rattle.lent.specs.Behind.{puts_next, puts_none}
use Rattle.sheet_text.proofs.number.Goals as goal

pub returns : goal.returns
returns c =
    let x = rw (c.gap.ensures.0, c.places.ensures) at c.same-e.ensures in
    puts_next x (puts_next c.decimal.ensures (puts_none _ _))
