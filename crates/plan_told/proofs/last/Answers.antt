use Rattle.plan_told.specs.Putting.{last_none}
use Rattle.plan_told.proofs.last.Goals as goal

pub returns-then-n-eq0 : goal.returns-then-n-eq0
returns-then-n-eq0 c = last_none c.args.s.now c.if-n-eq0.true
