use Rattle.lent.specs.Behind.{puts_none}
use Rattle.refusal.specs.declared.Refusal.TheVariants.{FiltersFull}
use Rattle.plan_told.specs.Putting.{number_not}
use Rattle.plan_told.proofs.too_many.Goals as goal

pub returns-in_default : goal.returns-in_default
returns-in_default c = rw (number_not _ FiltersFull c.in_default.not-FiltersFull) (puts_none _ _)
