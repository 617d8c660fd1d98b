use Rattle.lent.specs.Behind.{puts_next, puts_none}
use Rattle.bench_plan.proofs.say.Goals as goal

pub returns-in-Yes : goal.returns-in-Yes
returns-in-Yes c = rw c.in-Yes.is (puts_next c.word.ensures (puts_none _ _))

pub returns-in-Bad : goal.returns-in-Bad
returns-in-Bad c =
    rw (c.in-Bad.is, ← c.number.ensures, ← c.from.ensures) (puts_next c.decimal-e.ensures (puts_next c.word-f.ensures (puts_next c.decimal.ensures (puts_none _ _))))

pub returns-in-Hidden : goal.returns-in-Hidden
returns-in-Hidden c = rw c.in-Hidden.is (puts_next c.word-e.ensures (puts_next c.decimal-in-Hidden.ensures (puts_none _ _)))
