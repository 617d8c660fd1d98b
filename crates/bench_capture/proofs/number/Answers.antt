use Rattle.lent.specs.Behind.{puts_next, puts_none}
use borrow.Author.Rules.{rules}
use Rattle.bench_capture.proofs.number.Goals as goal

pub returns : goal.returns
returns c = search (puts_next, puts_none, rules)
