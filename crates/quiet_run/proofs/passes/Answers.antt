use Rattle.quiet_run.specs.Laws.{passes_said}
use Rattle.quiet_run.proofs.passes.Goals as goal

pub returns : goal.returns
returns c = passes_said c.args.run.now c.first.result c.is_none.result c.first.ensures c.is_none.ensures
