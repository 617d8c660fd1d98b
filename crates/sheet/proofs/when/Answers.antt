use Rattle.lent.specs.Behind.{puts_append, puts_next, puts_none}
use Rattle.sheet.proofs.when.Goals as goal

pub returns : goal.returns
returns c =
    let from = rw c.begins.ensures at c.seconds-f.ensures in
    let to = rw c.ends.ensures at c.seconds.ensures in
    puts_append (puts_append (puts_next c.decimal-e.ensures (puts_none _ _)) from) to
