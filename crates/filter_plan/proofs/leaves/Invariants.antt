use Prim.Native.Nat.{◌+◌, ◌*◌, ◌≤◌}
use mathlib.Core.Path.{◌≡◌}
use lib.ListN.{length, drop}
use Rattle.filter_plan.specs.Runs.{Stands}
use Rattle.filter_plan.proofs.leaves.Given as goal

abbrev pub invariant-loop-request : goal.invariant-loop-request
invariant-loop-request l =
    let i = l.request-iterator in
    (goal.iterator-loop-request).can_next i × (goal.iterator-loop-request).is_finite i
    × Stands l.plan i.count l.filters × (i.iter.rest.now ≡ drop (8 * i.count) l.plan) × (i.iter.size ≡ 8) × (8 * i.count ≤ length l.plan + 7)
