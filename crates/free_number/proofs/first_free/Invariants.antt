use Rattle.std.proofs.Common.{◌≡◌, ◌-◌, ◌<◌}
use Rattle.free_number.specs.Number.{first_free}
use Rattle.free_number.proofs.first_free.Given as goal

abbrev pub invariant-loop : goal.invariant-loop
invariant-loop l = (l.n < 256) × (first_free l.asked l.n (256 - l.counter) ≡ first_free l.asked l.last 256)
