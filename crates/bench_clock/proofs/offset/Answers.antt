use Rattle.lent.specs.Behind.{puts_next, puts_none}
use Rattle.bench_clock.proofs.offset.Goals as goal

pub returns-in-Absent : goal.returns-in-Absent
returns-in-Absent c = rw c.in-Absent.is (puts_next c.word.ensures (puts_none _ _))

pub returns-in-Later : goal.returns-in-Later
returns-in-Later c = rw c.in-Later.is (puts_next c.word-e.ensures c.time.ensures)

pub returns-in-Earlier : goal.returns-in-Earlier
returns-in-Earlier c = rw c.in-Earlier.is (puts_next c.word-e-in-Earlier.ensures c.time-in-Earlier.ensures)
