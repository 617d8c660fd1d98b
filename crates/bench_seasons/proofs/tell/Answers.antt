use borrow.Author.Tests.{ne_eqb}
use Rattle.lent.specs.Behind.{puts_next, puts_none}
use Rattle.bench_seasons.proofs.tell.Goals as goal

pub returns-else-n-eq211 : goal.returns-else-n-eq211
returns-else-n-eq211 c = rw (ne_eqb _ 0xD3 c.if-n-eq211.false) (puts_next c.byte.ensures (puts_none _ _))
