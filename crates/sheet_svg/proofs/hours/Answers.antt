use Rattle.lent.specs.Behind.{puts_next, puts_none}
use Rattle.sheet_svg.proofs.hours.Goals as goal

pub returns-in-None : goal.returns-in-None
returns-in-None c = rw c.in-None.is (puts_next c.word.ensures (puts_none _ _))

pub returns-in-Some : goal.returns-in-Some
returns-in-Some c = rw c.in-Some.is (puts_next c.decimal-a.ensures (puts_next c.word-in-Some.ensures (puts_none _ _)))
