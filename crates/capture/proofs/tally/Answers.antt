use Rattle.std.proofs.Common.{◌∙◌, arith}
use Rattle.capture.specs.Says.{stands, stands_bad}
use Rattle.capture.specs.Walk.{records_stop}
use Rattle.capture.specs.Reached.{way, step_room, tallied_stops, tallied_over, tallied_counts}
use Rattle.capture.proofs.tally.Goals as goal

pub returns-in_default-count : goal.returns-in_default-count
returns-in_default-count c = c.keep.ensures ∙ tallied_over c.loop-y.invariant (stands _ _ c.in-Some.y c.in-Some.ensures) c.in_default-count.ensures

pub loop-y-smaller : goal.loop-y-smaller
loop-y-smaller c = omega (arith, step_room (way c.loop-y.invariant) (stands _ _ c.in-Some.y c.in-Some.ensures))

pub loop-y-preserved : goal.loop-y-preserved
loop-y-preserved c = tallied_counts c.loop-y.invariant (stands _ _ c.in-Some.y c.in-Some.ensures) c.in-Ok.ensures

pub returns : goal.returns
returns c = c.keep-2.ensures ∙ tallied_stops c.loop-y.invariant (records_stop _ _ _ _ (stands_bad _ _ _ c.in_default.ensures))
