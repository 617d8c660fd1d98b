use Rattle.lent.specs.Behind.{puts_append}
use Rattle.sheet_text.proofs.counts_row.Goals as goal

pub returns : goal.returns
returns c =
    puts_append c.when-e.ensures c.counts.ensures
