use Rattle.lent.specs.Behind.{puts_next, puts_none}
use Rattle.bench_clock.proofs.time.Goals as goal

pub returns : goal.returns
returns c =
    puts_next (rw c.from.ensures at c.decimal-e.ensures) (puts_next c.byte-f.ensures (puts_next (rw c.from-2.ensures at c.decimal-g.ensures) (puts_next c.byte-h.ensures (puts_next (rw c.from-3.ensures at c.decimal.ensures) (puts_none _ _)))))
