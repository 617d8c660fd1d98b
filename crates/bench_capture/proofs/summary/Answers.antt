use Rattle.lent.specs.Behind.{puts_append, puts_next, puts_same}
use Rattle.bench_capture.specs.Pieces.{times_of}
use Rattle.bench_capture.proofs.summary.Goals as goal

pub returns : goal.returns
returns c =
    let x = c.args.x in
    puts_append (puts_same (times_of x.records x.first x.last c.times.ensures) c.put-e.ensures) (puts_next c.word-f.ensures c.numbers.ensures)
