use Prim.Native.Nat.{◌-◌}
use lib.ListN.{length}
use Rattle.items.specs.Pouring.{Pouring}
use Rattle.items.proofs.pour.Given as goal

abbrev pub invariant-loop-at : goal.invariant-loop-at
invariant-loop-at l = Pouring l.line l.closed l.s l.start l.initial.out l.at l.w l.out

abbrev pub decreases-loop-at : goal.decreases-loop-at
decreases-loop-at l = length l.s - l.at
