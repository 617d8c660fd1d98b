use Rattle.std.specs.Prelude.{◌-◌, length}
use Rattle.event.specs.Layout.{width_of}
use Rattle.capture.specs.Reached.{Tallied}
use Rattle.capture.proofs.tally.Given as goal

abbrev pub invariant-loop-y : goal.invariant-loop-y
invariant-loop-y l = Tallied (width_of l.layout) l.s l.place l.x

abbrev pub decreases-loop-y : goal.decreases-loop-y
decreases-loop-y l = length l.s - l.place
