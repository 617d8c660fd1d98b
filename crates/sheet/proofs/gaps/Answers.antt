use Rattle.lent.specs.Behind.{puts_append}
use Rattle.sheet.proofs.gaps.Goals as goal

pub returns : goal.returns
returns c =
    puts_append (puts_append c.seconds-e.ensures c.number-f.ensures) c.number.ensures
