use Rattle.lent.specs.Behind.{puts_append, puts_next, puts_none}
use Rattle.filter_text.proofs.next.Goals as goal

pub returns-then-some : goal.returns-then-some
returns-then-some c =
    rw c.if-some.true (puts_append (puts_next c.word-a.ensures (puts_none _ _)) c.of_type.ensures)
