use borrow.Author.Tests.{ne_eqb}
use Rattle.lent.specs.Behind.{puts_append}
use Rattle.bench_lines.proofs.say.Goals as goal

pub returns-then-x-eq1 : goal.returns-then-x-eq1
returns-then-x-eq1 c = rw c.if-x-eq1.true (puts_append c.put-e.ensures (rw c.part.ensures.result_value at c.run.ensures))

pub returns : goal.returns
returns c = rw (ne_eqb _ 0 c.if-x-eq0.false, ne_eqb _ 1 c.if-x-eq1.false) (puts_append c.put-e.ensures (rw c.part-2.ensures.result_value at c.run-2.ensures))
