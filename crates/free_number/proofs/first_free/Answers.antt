use Rattle.std.proofs.Common.{◌≡◌, ◌-◌, arith, rules}
use Rattle.free_number.specs.Number.{first_free}
use Rattle.free_number.specs.Search.{search_here, search_on}
use Rattle.free_number.proofs.first_free.Goals as goal

pub returns-then-not-known : goal.returns-then-not-known
returns-then-not-known c = rw (← c.loop.invariant.1) (search (search_here, rules))

pub loop-preserved : goal.loop-preserved
loop-preserved c = (search rules, rw (← c.loop.invariant.1) (search (search_on, rules)))

pub returns : goal.returns
unfolding first_free
returns c =
    let none : 256 - c.loop.counter ≡ 0 = omega arith in
    rw (← c.loop.invariant.1, none)
