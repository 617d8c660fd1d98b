use Rattle.lent.specs.Behind.{puts_append}
use Rattle.sheet_text.proofs.put_counts.Goals as goal

pub returns : goal.returns
returns c =
    puts_append (puts_append (puts_append (puts_append c.counts_head-d.ensures c.counts_row-e.ensures) c.counts_row-f.ensures) c.counts_row-g.ensures) c.counts_row.ensures
