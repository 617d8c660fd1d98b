use Rattle.lent.specs.Behind.{puts_append, puts_next, puts_none}
use Rattle.quiet_told.proofs.loud.Goals as goal

pub returns : goal.returns
returns c =
    let bytes = puts_append (puts_append c.place-a.ensures (puts_next c.word-b.ensures (puts_none _ _))) c.hexes-c.ensures in
    puts_append (puts_append (puts_append bytes (puts_next c.word-d.ensures (puts_none _ _))) c.reason-e.ensures) (puts_next c.byte.ensures (puts_none _ _))
