use Rattle.lent.specs.Behind.{puts_append, puts_same}
use Rattle.bench_datagrams.specs.Pieces.{read_of, plain_of}
use Rattle.bench_datagrams.proofs.say.Goals as goal

pub returns-in-Reply : goal.returns-in-Reply
returns-in-Reply c = puts_same (plain_of c.args.x c.answer.ensures (rw c.in-Reply.is)) c.put-e.ensures

pub returns-in-Code : goal.returns-in-Code
returns-in-Code c = puts_same (plain_of c.args.x c.answer.ensures (rw c.in-Code.is)) c.put-e.ensures

pub returns-in-Event : goal.returns-in-Event
returns-in-Event c = puts_same (read_of c.args.x c.answer.ensures) (puts_append c.put-e.ensures (rw c.in-Event.is c.event.ensures))

pub returns-in-Kind : goal.returns-in-Kind
returns-in-Kind c = puts_same (plain_of c.args.x c.answer.ensures (rw c.in-Kind.is)) c.put-e.ensures
