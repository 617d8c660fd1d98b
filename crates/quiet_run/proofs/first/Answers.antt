use Rattle.quiet_run.specs.Laws.{first_said}
use Rattle.quiet_run.proofs.first.Goals as goal

pub returns : goal.returns
returns c = first_said c.args.run.now c.scan.result c.err.result c.scan.ensures c.err.ensures.value
