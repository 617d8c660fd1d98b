use Rattle.lent.specs.Behind.{puts_append, puts_same}
use Rattle.bench_book.specs.Pieces.{page_of, plain_of}
use Rattle.bench_book.proofs.say.Goals as goal

pub returns-in-Done : goal.returns-in-Done
returns-in-Done c =
    let a = c.args in
    puts_same (plain_of a.p a.b c.answer.ensures (rw c.in-Done.is)) c.put-e.ensures

pub returns-in-Number : goal.returns-in-Number
returns-in-Number c =
    let a = c.args in
    puts_same (plain_of a.p a.b c.answer.ensures (rw c.in-Number.is)) c.put-e.ensures

pub returns-in-Command : goal.returns-in-Command
returns-in-Command c =
    let a = c.args in
    puts_same (plain_of a.p a.b c.answer.ensures (rw c.in-Command.is)) c.put-e.ensures

pub returns-in-GivenUp : goal.returns-in-GivenUp
returns-in-GivenUp c =
    let a = c.args in
    puts_same (plain_of a.p a.b c.answer.ensures (rw c.in-GivenUp.is)) c.put-e.ensures

pub returns-in-Book : goal.returns-in-Book
returns-in-Book c =
    let a = c.args in
    let at = c in
    puts_same (page_of a.p a.b at.answer.ensures)
    (puts_append at.put-e.ensures (rw at.in-Book.is c.entries.ensures))
