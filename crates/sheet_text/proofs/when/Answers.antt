use Rattle.lent.specs.Behind.{puts_append}
use Rattle.sheet_text.proofs.when.Goals as goal

pub returns : goal.returns
returns c =
    let from = rw c.begins.ensures at c.time-f.ensures in
    let to = rw c.ends.ensures at c.time.ensures in
    puts_append (puts_append c.season-e.ensures from) to
