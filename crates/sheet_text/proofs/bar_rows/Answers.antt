use Rattle.lent.specs.Behind.{puts_append}
use Rattle.sheet_text.proofs.bar_rows.Goals as goal

pub returns : goal.returns
returns c =
    puts_append (puts_append (puts_append c.bar_row-e.ensures c.bar_row-f.ensures) c.bar_row-g.ensures) c.bar_row.ensures
