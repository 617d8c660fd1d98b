use Rattle.lent.specs.Behind.{puts_append, puts_next, puts_none}
use Rattle.sheet_text.proofs.page.Goals as goal

pub returns : goal.returns
returns c =
    puts_append (puts_append (puts_append (puts_append c.put_title-d.ensures (puts_next c.byte-e.ensures (puts_none _ _))) c.put_counts-f.ensures) c.put_gaps-g.ensures) c.put_bars.ensures
