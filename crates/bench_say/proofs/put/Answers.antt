use Rattle.lent.specs.Behind.{puts_append}
use Rattle.bench_say.proofs.put.Goals as goal

pub returns : goal.returns
returns c = puts_append c.piece-e.ensures (puts_append c.piece-f.ensures c.piece.ensures)
