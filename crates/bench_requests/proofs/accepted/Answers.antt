use Rattle.lent.specs.Behind.{puts_none, puts_append, puts_same}
use Rattle.bench_requests.specs.Pieces.{mark_of}
use Rattle.bench_requests.proofs.accepted.Goals as goal

pub returns-in-Ok : goal.returns-in-Ok
returns-in-Ok c =
    rw c.in-Ok.is (puts_append c.contents-e.ensures (puts_same (mark_of c.in-Ok.q.retired c.mark.ensures) c.put.ensures))

pub returns-in-Err : goal.returns-in-Err
returns-in-Err c = rw c.in-Err.is (puts_none _ _)
