use Rattle.lent.specs.Behind.{puts_append, puts_next, puts_none}
use Rattle.figures.proofs.put_mac.Goals as goal

pub returns : goal.returns
returns c =
    puts_append c.hex_colon-a.ensures (puts_append c.hex_colon-b.ensures (puts_append c.hex_colon-c.ensures (puts_append c.hex_colon-d.ensures (puts_append c.hex_colon-e.ensures (puts_next c.hex.ensures (puts_none _ _))))))
