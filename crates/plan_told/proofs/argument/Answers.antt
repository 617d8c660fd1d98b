use borrow.Author.Tests.{ne_eqb}
use Rattle.lent.specs.Behind.{puts_next, puts_none}
use Rattle.plan_told.proofs.argument.Goals as goal

pub returns : goal.returns
returns c =
    rw (← c.byte_at-command.ensures, ne_eqb _ 0x31 c.if-command-eq-ADD.false, ne_eqb _ 0x33 c.if-command-eq-CLEAR.false)
    (puts_next c.word-a.ensures (puts_next c.hex-b.ensures (puts_next c.word.ensures (puts_none _ _))))
