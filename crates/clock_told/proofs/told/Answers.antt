use Rattle.lent.specs.Behind.{puts_next, puts_none}
use Rattle.clock_told.specs.Told.{refused_texts}
use Rattle.clock_told.proofs.told.Goals as goal

pub returns-in_default : goal.returns-in_default
unfolding refused_texts
returns-in_default c = rw c.in_default.is (puts_none _ _)

pub returns : goal.returns
unfolding refused_texts
returns c = rw c.in-Err.is (puts_next c.word-a.ensures (puts_next c.decimal-b.ensures (puts_next c.word-c.ensures (puts_next c.refusal-d.ensures (puts_next c.reason-e.ensures (puts_next c.word.ensures (puts_none _ _)))))))
