use Rattle.lent.specs.Behind.{puts_next, puts_none}
use Rattle.sheet_text.proofs.time.Goals as goal

pub returns : goal.returns
returns c =
    let w = rw c.behind.ensures.0 at c.same.ensures in
    puts_next c.word-e.ensures (puts_next c.put_time-f.ensures (puts_next w (puts_none _ _)))
