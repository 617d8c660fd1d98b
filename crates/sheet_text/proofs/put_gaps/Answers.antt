use Rattle.lent.specs.Behind.{puts_append}
use Rattle.sheet_text.proofs.put_gaps.Goals as goal

pub returns : goal.returns
returns c =
    puts_append (puts_append (puts_append (puts_append c.gaps_head-d.ensures c.gaps_row-e.ensures) c.gaps_row-f.ensures) c.gaps_row-g.ensures) c.gaps_row.ensures
