use Prim.Native.Nat.{◌-◌}
use lib.ListN.{length}
use Rattle.event.specs.Layout.{width_of}
use Rattle.passing.specs.Going.{Going}
use Rattle.passing.proofs.over.Given as goal

abbrev pub invariant-loop-y : goal.invariant-loop-y
invariant-loop-y l = Going (width_of l.layout) l.s l.who l.b l.x l.at l.n l.last l.tally

abbrev pub decreases-loop-y : goal.decreases-loop-y
decreases-loop-y l = length l.s - l.at
