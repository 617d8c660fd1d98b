use Rattle.std.proofs.Common.{rules, refl, sym, arith}
use Rattle.morning.specs.Going.{going_room, going_in, going_refused, going_stops}
use Rattle.morning.proofs.append_all.Goals as goal

pub overflow_add-end : goal.overflow_add-end
overflow_add-end c = omega (arith, going_room c.loop-n.invariant.0 _ (sym c.in-Some.ensures))

pub slice_bounds-append_at-end : goal.slice_bounds-append_at-end
slice_bounds-append_at-end c = omega (arith, going_room c.loop-n.invariant.0 _ (sym c.in-Some.ensures))

pub loop-n-preserved-in-Ok : goal.loop-n-preserved-in-Ok
loop-n-preserved-in-Ok c = (going_in c.loop-n.invariant.0 _ (sym c.in-Some.ensures) _ refl _ _ c.in-Ok.ensures, search rules)

pub loop-n-preserved : goal.loop-n-preserved
loop-n-preserved c = (going_refused c.loop-n.invariant.0 _ (sym c.in-Some.ensures) _ refl _ _ c.in-Err.ensures, search rules)

pub returns : goal.returns
returns c = going_stops c.loop-n.invariant.0 _ (sym c.in_default.ensures)

pub loop-n-smaller-in-Ok : goal.loop-n-smaller-in-Ok
loop-n-smaller-in-Ok c = omega (arith, going_room c.loop-n.invariant.0 _ (sym c.in-Some.ensures))

pub loop-n-smaller : goal.loop-n-smaller
loop-n-smaller c = omega (arith, going_room c.loop-n.invariant.0 _ (sym c.in-Some.ensures))
