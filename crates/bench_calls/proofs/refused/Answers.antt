use Rattle.lent.specs.Behind.{puts_same}
use Rattle.bench_calls.specs.Faults.{fault_of}
use Rattle.bench_calls.proofs.refused.Goals as goal

pub returns : goal.returns
returns c = puts_same (fault_of c.args.c c.kind_of.ensures) c.put.ensures
