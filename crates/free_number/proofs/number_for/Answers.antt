use Rattle.std.proofs.Common.{rules}
use Rattle.free_number.specs.Number.{number_for}
use Rattle.free_number.specs.Search.{next_vacant}
use Rattle.free_number.proofs.number_for.Goals as goal

pub returns-then-not-known : goal.returns-then-not-known
unfolding number_for
returns-then-not-known c = rw (← c.known.ensures, c.if-not-known.true)

pub returns-then-retired : goal.returns-then-retired
unfolding number_for
returns-then-retired c =
    rw (← c.known.ensures, c.if-not-known.false, ← c.retired.ensures, c.if-retired.true)

pub returns-then-asked-next-eq-VACANT : goal.returns-then-asked-next-eq-VACANT
unfolding number_for
returns-then-asked-next-eq-VACANT c =
    rw (← c.known.ensures, c.if-not-known.false, ← c.retired.ensures, c.if-retired.false)
    (search (next_vacant, rules))

pub returns : goal.returns
unfolding number_for
returns c =
    rw (← c.known.ensures, c.if-not-known.false, ← c.retired.ensures, c.if-retired.false)
    (search rules)
