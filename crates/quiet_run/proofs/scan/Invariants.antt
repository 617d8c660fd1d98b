use Prim.Native.Nat.{◌-◌}
use lib.ListN.{length}
use Rattle.quiet_run.specs.Scanning.{Scanning}
use Rattle.quiet_run.proofs.scan.Given as goal

abbrev pub invariant-loop-number : goal.invariant-loop-number
invariant-loop-number l = Scanning l.closed l.run l.at

abbrev pub decreases-loop-number : goal.decreases-loop-number
decreases-loop-number l = length l.run - l.at
