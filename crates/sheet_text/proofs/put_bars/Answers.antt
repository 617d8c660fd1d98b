use Rattle.lent.specs.Behind.{puts_append}
use Rattle.sheet_text.proofs.put_bars.Goals as goal

pub returns : goal.returns
returns c =
    puts_append (puts_append c.bars-e.ensures c.bars-f.ensures) c.bars.ensures
