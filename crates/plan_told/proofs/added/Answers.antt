use Rattle.lent.specs.Behind.{puts_none}
use Rattle.plan_told.proofs.added.Goals as goal

pub returns-in-Ok-Clear : goal.returns-in-Ok-Clear
returns-in-Ok-Clear c = rw (← c.read.ensures, c.in-Ok-Clear.is, c.in-Ok-Clear.field-0-is) (puts_none _ _)

pub returns-in-Err : goal.returns-in-Err
returns-in-Err c = rw (← c.read.ensures, c.in-Err.is) (puts_none _ _)
