use borrow.Author.Tests.{le-leb, lt-leb}
use Rattle.lent.specs.Behind.{puts_next, puts_none}
use Rattle.filter_text.proofs.of_type.Goals as goal

pub returns-then-t-gt9 : goal.returns-then-t-gt9
returns-then-t-gt9 c =
    rw (lt-leb _ 9 c.if-t-gt9.true) (puts_next c.decimal-a.ensures (puts_none _ _))

pub returns : goal.returns
returns c =
    rw (le-leb _ 9 c.if-t-gt9.false) (puts_next c.decimal-a.ensures (puts_next c.word-b.ensures (puts_next c.put.ensures (puts_none _ _))))
