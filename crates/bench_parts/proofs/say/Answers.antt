use Rattle.lent.specs.Behind.{puts_same}
use Rattle.bench_parts.specs.Pieces.{part_of}
use Rattle.bench_parts.proofs.say.Goals as goal

pub returns : goal.returns
returns c = puts_same (part_of c.args.p c.answer.ensures) c.put.ensures
