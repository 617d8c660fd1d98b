use Rattle.lent.specs.Behind.{puts_append, puts_same}
use Rattle.bench_datagrams.specs.Pieces.{count_of}
use Rattle.bench_datagrams.proofs.wrote.Goals as goal

pub returns : goal.returns
returns c = puts_append (puts_same (count_of c.args.w c.count.ensures) c.put-e.ensures) (puts_append c.run-f.ensures c.run.ensures)
