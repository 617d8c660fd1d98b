use Rattle.lent.specs.Behind.{puts_same}
use Rattle.bench_maps.specs.Pieces.{data_of}
use Rattle.bench_maps.proofs.say.Goals as goal

pub returns : goal.returns
returns c = puts_same (data_of c.args.d c.answer.ensures) c.put.ensures
