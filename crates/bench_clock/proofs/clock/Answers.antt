use Rattle.lent.specs.Behind.{puts_append, puts_next, puts_none}
use Rattle.refusal.specs.Answer.{said, told}
use Rattle.bench_clock.proofs.clock.Goals as goal

pub returns-in-Err : goal.returns-in-Err
returns-in-Err c =
    let e = told said _ c.read.ensures c.in-Err.is in
    rw (← c.flag_in.ensures, e) (puts_next (rw (c.from.ensures, c.number.ensures) at c.decimal.ensures) (puts_none _ _))

pub returns-in-Ok : goal.returns-in-Ok
returns-in-Ok c =
    let e = told said _ c.read.ensures c.in-Ok.is in
    rw (← c.flag_in.ensures, e) (puts_next c.word-e.ensures (puts_append c.time-f.ensures (puts_append c.days-g.ensures c.offset.ensures)))
