use Rattle.lent.specs.Behind.{puts_append, puts_same}
use Rattle.words.specs.Words.{before, word_in}
use Rattle.bench_requests.specs.Pieces.{level_of, colour_of}
use Rattle.bench_requests.proofs.coloured.Goals as goal

pub returns : goal.returns
unfolding before word_in
returns c =
    puts_append c.put-e.ensures
    (puts_append (puts_same (level_of c.args.lit c.args.level c.lights.ensures) c.put-f.ensures)
    (puts_same (colour_of c.args.c c.first.ensures c.last.ensures)
    (puts_append c.put-g.ensures c.put.ensures)))
