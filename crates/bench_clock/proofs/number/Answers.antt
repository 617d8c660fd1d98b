use Rattle.lent.specs.Behind.{puts_next, puts_none}
use Rattle.bench_clock.proofs.number.Goals as goal

pub returns : goal.returns
returns c = puts_next c.word-e.ensures (puts_next (rw c.from.ensures at c.decimal.ensures) (puts_none _ _))
