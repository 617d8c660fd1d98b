use Prim.Native.Nat.{◌-◌}
use lib.ListN.{length}
use Rattle.plan_wanted.specs.Turns.{Under}
use Rattle.plan_wanted.proofs.put.Given as goal

abbrev pub invariant-loop-i : goal.invariant-loop-i
invariant-loop-i l = Under l.text l.initial.out l.out l.i l.at

abbrev pub decreases-loop-i : goal.decreases-loop-i
decreases-loop-i l = length l.text - l.i
