use Rattle.lent.specs.Behind.{puts_append, puts_next}
use Rattle.bench_clock.proofs.days.Goals as goal

pub returns : goal.returns
returns c = puts_next c.word-e.ensures (puts_next c.hex-f.ensures (puts_append c.number-g.ensures (puts_append c.number-h.ensures c.number.ensures)))
