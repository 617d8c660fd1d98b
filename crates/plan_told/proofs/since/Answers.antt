use Rattle.lent.specs.Behind.{puts_append, puts_none}
use Rattle.plan_told.proofs.since.Goals as goal

pub returns-in-Ok-Add : goal.returns-in-Ok-Add
returns-in-Ok-Add c =
    rw (← c.read.ensures, c.in-Ok-Add.is, c.in-Ok-Add.field-0-is)
    (puts_append c.adds-a.ensures (rw c.exchange.ensures at c.slipped.ensures))

pub returns-in-Ok-Clear : goal.returns-in-Ok-Clear
returns-in-Ok-Clear c = rw (← c.read.ensures, c.in-Ok-Clear.is, c.in-Ok-Clear.field-0-is) (puts_none _ _)

pub returns-in-Err : goal.returns-in-Err
returns-in-Err c = rw (← c.read.ensures, c.in-Err.is) (puts_none _ _)
