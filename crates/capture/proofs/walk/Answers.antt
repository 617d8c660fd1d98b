use Rattle.std.proofs.Common.{arith}
use Rattle.capture.specs.Says.{stands, stands_bad}
use Rattle.capture.specs.Walk.{records_stop}
use Rattle.capture.specs.Reached.{reached_stops, reached_step, step_room}
use Rattle.capture.proofs.walk.Goals as goal

pub loop-x-preserved : goal.loop-x-preserved
loop-x-preserved c = reached_step c.loop-x.invariant (stands _ _ c.in-Some.x c.in-Some.ensures)

pub loop-x-smaller : goal.loop-x-smaller
loop-x-smaller c = omega (arith, step_room c.loop-x.invariant (stands _ _ c.in-Some.x c.in-Some.ensures))

pub returns : goal.returns
returns c = reached_stops c.loop-x.invariant (records_stop _ _ _ _ (stands_bad _ _ _ c.in_default.ensures))
