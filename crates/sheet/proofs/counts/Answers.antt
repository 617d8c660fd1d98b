use Rattle.lent.specs.Behind.{puts_append}
use Rattle.sheet.proofs.counts.Goals as goal

pub returns : goal.returns
returns c =
    puts_append (puts_append c.number-e.ensures c.number-f.ensures) c.number.ensures
