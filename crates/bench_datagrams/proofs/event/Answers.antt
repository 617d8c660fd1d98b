use Rattle.lent.specs.Behind.{puts_append, puts_none, puts_same}
use Rattle.bench_datagrams.specs.Pieces.{kind_of_lem, instance_of_lem}
use Rattle.bench_datagrams.proofs.event.Goals as goal

pub returns-in-Ok : goal.returns-in-Ok
returns-in-Ok c =
    let v = c.in-Ok.v in
    rw c.in-Ok.is
    (puts_append c.run-e.ensures
    (puts_append (puts_same (kind_of_lem v.target v.kind c.kind.ensures) c.put-f.ensures) (puts_same (instance_of_lem v.n v.instance c.instance.ensures) c.put.ensures)))

pub returns-in-Err : goal.returns-in-Err
returns-in-Err c = rw c.in-Err.is (puts_none _ _)
