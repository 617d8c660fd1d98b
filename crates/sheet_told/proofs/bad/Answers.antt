use Rattle.lent.specs.Behind.{puts_append, puts_next, puts_none}
use Rattle.sheet_told.proofs.bad.Goals as goal

pub returns-in-Fresh : goal.returns-in-Fresh
returns-in-Fresh c =
    rw c.in-Fresh.is (puts_next c.word.ensures (puts_none _ _))

pub returns-in-Of : goal.returns-in-Of
returns-in-Of c =
    rw c.in-Of.is (puts_append c.place-e.ensures (puts_next c.word-in-Of.ensures (puts_none _ _)))

pub returns-in-Refused : goal.returns-in-Refused
returns-in-Refused c =
    rw c.in-Refused.is (puts_append c.place-e-in-Refused.ensures (puts_next c.word-in-Refused.ensures (puts_none _ _)))
