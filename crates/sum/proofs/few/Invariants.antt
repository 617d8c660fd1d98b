use Rattle.std.proofs.Common.{◌≡◌, drop}
use Rattle.sum.specs.Sum.{sum_from, sum_of}
use Rattle.sum.proofs.few.Given as goal

abbrev pub invariant-loop-b : goal.invariant-loop-b
invariant-loop-b l = sum_from l.x (drop l.b-index l.s) ≡ sum_of l.s
