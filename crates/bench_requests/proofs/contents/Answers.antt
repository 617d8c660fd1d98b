use Rattle.lent.specs.Behind.{puts_append, puts_same}
use Rattle.words.specs.Words.{before, word_in}
use Rattle.bench_requests.specs.Pieces.{meaning_of_lem}
use Rattle.bench_requests.proofs.contents.Goals as goal

pub returns-in-Basic : goal.returns-in-Basic
returns-in-Basic c = rw c.in-Basic.is (puts_append c.run-e.ensures (puts_same (meaning_of_lem c.in-Basic.said c.meaning.ensures) c.put.ensures))

pub returns-in-Unicast : goal.returns-in-Unicast
unfolding before word_in
returns-in-Unicast c = rw c.in-Unicast.is (puts_append c.put-e.ensures c.put-in-Unicast.ensures)
