use Rattle.lent.specs.Behind.{puts_append, puts_same}
use Rattle.bench_requests.specs.Pieces.{asked_of, plain_of}
use Rattle.bench_requests.proofs.say.Goals as goal

pub returns-in-Reading : goal.returns-in-Reading
returns-in-Reading c = puts_same (asked_of c.args.a c.answer.ensures) (puts_append c.put-e.ensures (rw c.in-Reading.is c.accepted.ensures))

pub returns-in-Target : goal.returns-in-Target
returns-in-Target c = puts_same (plain_of c.args.a c.answer.ensures (rw c.in-Target.is)) c.put-e.ensures
