use native.Mathlib.Omega.{arith}
use borrow.Author.Tests.{ne_eqb}
use Rattle.lent.specs.Behind.{puts_next, puts_none}
use Rattle.quiet_told.specs.Answer.{reason_texts}
use Rattle.quiet_told.proofs.reason.Goals as goal

pub returns-in-0 : goal.returns-in-0
unfolding reason_texts
returns-in-0 c = rw c.in-0.is c.outside.ensures

pub returns-in-1 : goal.returns-in-1
unfolding reason_texts
returns-in-1 c = rw c.in-1.is (puts_next c.word.ensures (puts_none _ _))

pub returns-in-2 : goal.returns-in-2
unfolding reason_texts
returns-in-2 c = rw c.in-2.is (puts_next c.word-in-2.ensures (puts_none _ _))

pub returns-in-3 : goal.returns-in-3
unfolding reason_texts
returns-in-3 c = rw c.in-3.is (puts_next c.word-in-3.ensures (puts_none _ _))

pub returns-in-4 : goal.returns-in-4
unfolding reason_texts
returns-in-4 c = rw c.in-4.is (puts_next c.word-in-4.ensures (puts_none _ _))

pub returns-in-6 : goal.returns-in-6
unfolding reason_texts
returns-in-6 c = rw c.in-6.is (puts_next c.word-in-6.ensures (puts_none _ _))

pub returns-in-7 : goal.returns-in-7
unfolding reason_texts
returns-in-7 c = rw c.in-7.is (puts_next c.word-in-7.ensures (puts_none _ _))

pub returns-in_default : goal.returns-in_default
unfolding reason_texts
returns-in_default c =
    rw (
      ne_eqb c.args.number 0 (search (c.in_default, arith)),
      ne_eqb c.args.number 1 (search (c.in_default, arith)),
      ne_eqb c.args.number 2 (search (c.in_default, arith)),
      ne_eqb c.args.number 3 (search (c.in_default, arith)),
      ne_eqb c.args.number 4 (search (c.in_default, arith)),
      ne_eqb c.args.number 6 (search (c.in_default, arith)),
      ne_eqb c.args.number 7 (search (c.in_default, arith)),
    )
    (puts_next c.word-in_default.ensures (puts_none _ _))
