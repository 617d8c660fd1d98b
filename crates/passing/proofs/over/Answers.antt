use Rattle.std.proofs.Common.{refl, arith}
use Rattle.capture.specs.Says.{stands, stands_bad}
use Rattle.capture.specs.Walk.{records_stop}
use Rattle.capture.specs.Reached.{step_room}
use Rattle.passing.specs.Going.{going_step, going_stops}
use Rattle.passing.proofs.over.Goals as goal

pub loop-y-preserved : goal.loop-y-preserved
loop-y-preserved c = going_step c.loop-y.invariant (stands _ _ c.in-Some.y c.in-Some.ensures) c.one_more-tally.ensures refl

pub loop-y-smaller : goal.loop-y-smaller
loop-y-smaller c = omega (arith, step_room c.loop-y.invariant.way (stands _ _ c.in-Some.y c.in-Some.ensures))

pub returns : goal.returns
returns c =
    rw (c.plus.ensures, c.plus-2.ensures)
    (going_stops c.loop-y.invariant (records_stop _ _ _ _ (stands_bad _ _ _ c.in_default.ensures)))
