use borrow.Author.Tests.{eq-eqb, ne_eqb}
use Rattle.words.specs.Words.{before, word_in}
use Rattle.lent.specs.Behind.{puts_append, puts_none}
use Rattle.bench_book.proofs.entry.Goals as goal

pub returns-then-c-eq0 : goal.returns-then-c-eq0
returns-then-c-eq0 c = rw (eq-eqb c.args.c 0 c.if-c-eq0.true) (puts_none _ _)

pub returns : goal.returns
unfolding before word_in
returns c =
    let a = c.args in
    rw (ne_eqb a.c 0 c.if-c-eq0.false)
    (puts_append c.put-e.ensures c.put.ensures)
