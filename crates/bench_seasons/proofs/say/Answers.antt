use Rattle.lent.specs.Behind.{puts_append, puts_next, puts_none}
use Rattle.bench_seasons.proofs.say.Goals as goal

pub returns-in-Err : goal.returns-in-Err
returns-in-Err c = rw c.in-Err.is (puts_next (rw c.number.ensures at c.decimal.ensures) (puts_none _ _))

pub returns-in-Ok : goal.returns-in-Ok
returns-in-Ok c =
    rw c.in-Ok.is
    (puts_next c.byte-e.ensures
    (puts_append c.season-f.ensures (puts_append c.season-g.ensures (puts_append c.season-h.ensures c.season.ensures))))
