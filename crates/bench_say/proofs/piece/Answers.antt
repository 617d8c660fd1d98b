use borrow.Author.Tests.{ne_eqb}
use Rattle.lent.specs.Behind.{puts_next, puts_none}
use Rattle.bench_say.proofs.piece.Goals as goal

pub returns-then-form-eq0 : goal.returns-then-form-eq0
returns-then-form-eq0 c = rw c.if-form-eq0.true (puts_none _ _)

pub returns-then-form-eq4 : goal.returns-then-form-eq4
returns-then-form-eq4 c = rw c.if-form-eq4.true (puts_next c.decimal.ensures (puts_none _ _))

pub returns-then-form-eq2 : goal.returns-then-form-eq2
returns-then-form-eq2 c = rw c.if-form-eq2.true (puts_next c.put-e.ensures (puts_next c.decimal-then-form-eq2.ensures (puts_none _ _)))

pub returns-then-form-eq3 : goal.returns-then-form-eq3
returns-then-form-eq3 c = rw c.if-form-eq3.true (puts_next c.put-e.ensures (puts_next c.hex.ensures (puts_none _ _)))

pub returns : goal.returns
returns c = rw (ne_eqb _ 0 c.if-form-eq0.false, ne_eqb _ 4 c.if-form-eq4.false, ne_eqb _ 2 c.if-form-eq2.false, ne_eqb _ 3 c.if-form-eq3.false) (puts_next c.put-e.ensures (puts_none _ _))
