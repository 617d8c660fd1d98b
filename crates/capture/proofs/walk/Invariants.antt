use Rattle.std.specs.Prelude.{◌-◌, length}
use Rattle.event.specs.Layout.{width_of}
use Rattle.capture.specs.Reached.{Reached}
use Rattle.capture.proofs.walk.Given as goal

abbrev pub invariant-loop-x : goal.invariant-loop-x
invariant-loop-x l = Reached (width_of l.layout) l.s l.initial.at l.initial.last l.at l.last

abbrev pub decreases-loop-x : goal.decreases-loop-x
decreases-loop-x l = length l.s - l.at
